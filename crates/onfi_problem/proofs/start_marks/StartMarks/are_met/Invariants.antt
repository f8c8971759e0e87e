use Rattle.std.proofs.Common.{◌≡◌, drop, false}
use Rattle.std.specs.Prelude.{if◌then◌else◌}
use Rattle.onfi_problem.specs.StartMarks.{are_met}
use Rattle.onfi_problem.proofs.start_marks.StartMarks.are_met.Given as goal

abbrev pub invariant-loop-i : goal.invariant-loop-i
invariant-loop-i l = (if l.met then are_met (drop l.i l.waiting) (drop l.i l.self.asked) (drop l.i l.self.members) else false) ≡ are_met l.waiting l.self.asked l.self.members
