use Rattle.std.proofs.Common.{◌≡◌, take, false, replicate}
use Rattle.onfi_group.specs.Group.{is_member}
use Rattle.onfi_problem.specs.StartMarks.{is_asked, marks_by}
use Rattle.onfi_problem.proofs.start_marks.start_marks.Given as goal

abbrev pub invariant-loop-i : goal.invariant-loop-i
invariant-loop-i l = record {
  members : l.members ≡ marks_by (is_member l.group) (take l.i l.wants) (replicate 8 false);
  asked : l.asked ≡ marks_by (is_asked l.group) (take l.i l.wants) (replicate 8 false);
}
