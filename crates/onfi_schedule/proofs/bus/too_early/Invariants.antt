use Rattle.std.proofs.Common.{◌≤◌, ◌↔◌, drop}
use Rattle.std.specs.List.{AllByRecursion as All}
use Rattle.onfi_schedule.specs.declared.phase.Phase.{Phase}
use Rattle.onfi_schedule.specs.Slots.{phases_in}
use Rattle.onfi_schedule.proofs.bus.too_early.Given as goal

abbrev pub invariant-loop-slot : goal.invariant-loop-slot
invariant-loop-slot l = let From : Phase → Type 0 = λ x. l.bus_free ≤ x.start in All From (phases_in (drop l.slot-index l.slots)) ↔ All From (phases_in l.slots)
