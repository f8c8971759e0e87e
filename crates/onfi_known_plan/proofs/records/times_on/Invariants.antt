use Rattle.std.proofs.Common.{◌≡◌, ◌<◌, ℕ, length, get_or}
use Rattle.onfi_problem.specs.Moves.{may_go}
use Rattle.onfi_known_plan.proofs.records.times_on.Given as goal

abbrev pub invariant-loop-lun : goal.invariant-loop-lun
invariant-loop-lun l = record {
  long : length l.times ≡ 8;
  done : (k : ℕ) → k < l.lun → get_or l.times k 0 ≡ may_go l.problem.problem k;
}
