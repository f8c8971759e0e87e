use Rattle.onfi_bound.specs.Loads.{AreLoadsBefore}
use Rattle.onfi_bound.proofs.loads.Loads.new.Given as goal

abbrev pub invariant-loop-number : goal.invariant-loop-number
invariant-loop-number l = AreLoadsBefore l.problem l.number l.of.items
