use Rattle.std.proofs.Common.{◌≡◌, ◌≤◌, length, map, take}
use Rattle.onfi_flight.specs.Times.{later_group}
use Rattle.onfi_flight.proofs.later.delay_groups.Given as goal

abbrev pub invariant-loop-placed : goal.invariant-loop-placed
invariant-loop-placed l = record {
  made : l.later.items ≡ map (later_group l.by) (take l.placed-index l.groups);
  few : length l.later.items ≤ l.placed-index;
}
