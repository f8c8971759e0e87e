use Rattle.onfi_bound.specs.Loads.{IsTally}
use Rattle.onfi_bound.proofs.tally.Tally.of.Given as goal

abbrev pub invariant-loop-lun : goal.invariant-loop-lun
invariant-loop-lun l = IsTally l.problem.problem l.lun l.tally
