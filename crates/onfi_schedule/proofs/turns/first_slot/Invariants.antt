use Rattle.std.proofs.Common.{◌≤◌, length, take}
use Rattle.std.specs.List.{AllByRecursion as All}
use Rattle.onfi_group.specs.Words.{Has}
use Rattle.onfi_schedule.specs.declared.slot.Slot.{Slot}
use Rattle.onfi_schedule.proofs.turns.first_slot.Given as goal

abbrev pub invariant-loop-slot : goal.invariant-loop-slot
invariant-loop-slot l =
    let From : Slot → Type 0 = λ y. l.first.phase.start ≤ y.phase.start in
    record {
      there : 1 ≤ length l.slots → Has l.slots l.first;
      least : All From (take l.slot-index l.slots);
    }
