use Rattle.std.proofs.Common.{◌≡◌, ◌+◌, ◌++◌, List}
use Rattle.onfi_bound.specs.declared.load.Load.{Load}
use Rattle.onfi_bound.specs.Loads.{AreLoadsBefore}
use Rattle.onfi_bound.proofs.loads.add_want.Given as goal

-- those that were there, and after them those that were added
abbrev pub invariant-loop-at : goal.invariant-loop-at
invariant-loop-at l = (added : List Load) × (l.of.items ≡ l.initial.of.items ++ added) × (AreLoadsBefore l.problem (l.number + 1) added)
