use Rattle.std.proofs.Common.{◌≡◌, take, map}
use Rattle.onfi_problem.specs.StartMarks.{start_marks}
use Rattle.onfi_problem.proofs.start_marks.list_start_marks.Given as goal

abbrev pub invariant-loop-group : goal.invariant-loop-group
invariant-loop-group l = l.marks.items ≡ map (start_marks l.wants) (take l.group-index l.groups)
