use Rattle.std.proofs.Common.{◌≡◌, ◌≤◌, ◌<◌, ℕ, get_or, true}
use Rattle.onfi_problem.specs.Moves.{may_go}
use Rattle.onfi_demand.specs.Left.{has_left}
use Rattle.onfi_known_check.proofs.known.Known.is_met.Given as goal

abbrev pub invariant-loop-lun : goal.invariant-loop-lun
invariant-loop-lun l = (k : ℕ) → k < l.lun → has_left l.problem.problem k ≡ true → get_or l.self.times k 0 ≤ may_go l.problem.problem k
