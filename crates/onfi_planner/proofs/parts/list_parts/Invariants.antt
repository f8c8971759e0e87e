use Rattle.std.proofs.Common.{◌≡◌, take}
use Rattle.onfi_planner.specs.Parts.{parts_of}
use Rattle.onfi_planner.proofs.parts.list_parts.Given as goal

abbrev pub invariant-loop-step : goal.invariant-loop-step
invariant-loop-step l = record { parts : l.parts.items ≡ parts_of l.yields (take l.step-index l.moves) }
