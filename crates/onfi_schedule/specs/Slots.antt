-- Phases with their names.
use Rattle.std.specs.Prelude.{◌≤◌, List, map}
use Rattle.std.specs.List.{AllByRecursion as Each}
use Rattle.onfi_schedule.specs.declared.phase.Phase.{Phase}
use Rattle.onfi_schedule.specs.Schedule.{end_of}
use Rattle.onfi_schedule.specs.declared.slot.Slot.{Slot}
use Rattle.onfi_schedule.specs.Names.{Named}

-- the phases alone
abbrev pub phases_in : List Slot → List Phase
phases_in slots = map (λ s. s.phase) slots

-- the phases with their names
abbrev pub named_slot : Slot → Named
named_slot s = record { name = s.name; phase = s.phase }

abbrev pub named_in : List Slot → List Named
named_in slots = map named_slot slots

-- the phase has ended when any of the others starts
abbrev pub EndsFirst : Phase → List Phase → Type 0
EndsFirst x ys = Each (λ y. end_of x ≤ y.start) ys
