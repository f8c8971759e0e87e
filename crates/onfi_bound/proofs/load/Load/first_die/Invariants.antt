use Rattle.std.proofs.Common.{ℕ, ◌<◌}
use Rattle.onfi_bound.specs.Bounds.{die}
use Rattle.onfi_bound.proofs.load.Load.first_die.Given as goal

abbrev pub invariant-loop-lun : goal.invariant-loop-lun
invariant-loop-lun l = (k : ℕ) → k < l.lun → die l.problem.problem k < l.e
