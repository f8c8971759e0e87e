use Rattle.std.proofs.Common.{◌↔◌, drop}
use Rattle.onfi_schedule.specs.Schedule.{Before}
use Rattle.onfi_schedule.specs.Slots.{phases_in}
use Rattle.onfi_schedule.proofs.turns.are_before.Given as goal

abbrev pub invariant-loop-slot : goal.invariant-loop-slot
invariant-loop-slot l = Before (phases_in (drop l.slot-index l.slots)) (phases_in l.others) ↔ Before (phases_in l.slots) (phases_in l.others)
