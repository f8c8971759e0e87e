use Rattle.std.proofs.Common.{◌≡◌, take, length}
use Rattle.onfi_problem.proofs.Marks.{left_marks}
use Rattle.onfi_problem.proofs.problem.moving.leave.Given as goal

abbrev pub invariant-loop-i : goal.invariant-loop-i
invariant-loop-i l = record {
  long : length l.waiting ≡ 8;
  marks : l.waiting ≡ left_marks l.group l.fn.waiting (take l.i l.wants);
}
