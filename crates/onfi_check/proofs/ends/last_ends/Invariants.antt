use Rattle.std.proofs.Common.{◌≡◌, ◌<◌, ℕ, None, length, take, get_or}
use Rattle.onfi_problem.specs.Position.{moves_of}
use Rattle.onfi_check.specs.Ends.{IsLastEnd}
use Rattle.onfi_check.proofs.ends.last_ends.Given as goal

abbrev pub invariant-loop-m : goal.invariant-loop-m
invariant-loop-m l = record {
  long : length l.ends ≡ 8;
  ends : (lun : ℕ) → lun < 8 → IsLastEnd l.problem.problem (moves_of l.problem.groups (take l.m-index l.moves)) lun (get_or l.ends lun None);
}
