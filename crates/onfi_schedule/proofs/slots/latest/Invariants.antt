use Rattle.std.proofs.Common.{◌≡◌, ◌≤◌, max, drop}
use Rattle.onfi_schedule.specs.Schedule.{latest}
use Rattle.onfi_schedule.specs.Slots.{phases_in}
use Rattle.onfi_schedule.proofs.slots.latest.Given as goal

abbrev pub invariant-loop-slot : goal.invariant-loop-slot
invariant-loop-slot l = record {
  from_time : l.time ≤ l.last;
  last : max l.last (latest l.time (phases_in (drop l.slot-index l.slots))) ≡ latest l.time (phases_in l.slots);
}
