use Rattle.std.proofs.Common.{◌+◌}
use Rattle.onfi_steady.specs.Below.{IsGreatestBefore}
use Rattle.onfi_steady.proofs.below.greatest_bound.Given as goal

abbrev pub invariant-loop-lun : goal.invariant-loop-lun
invariant-loop-lun l = IsGreatestBefore l.problem.problem (3 + l.lun) l.greatest
