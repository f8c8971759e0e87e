use Rattle.std.proofs.Common.{◌↔◌, drop}
use Rattle.onfi_group.specs.Words.{Pairs}
use Rattle.onfi_schedule.specs.Schedule.{Apart}
use Rattle.onfi_schedule.specs.Slots.{phases_in}
use Rattle.onfi_schedule.proofs.bus.overlap.Given as goal

abbrev pub invariant-loop-at : goal.invariant-loop-at
invariant-loop-at l = Pairs Apart (phases_in (drop l.at l.slots)) ↔ Pairs Apart (phases_in l.slots)
