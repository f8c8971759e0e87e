use Rattle.std.proofs.Common.{◌↔◌, drop}
use Rattle.onfi_problem.specs.Problem.{AreStated}
use Rattle.onfi_problem.proofs.checks.are_stated.Given as goal

abbrev pub invariant-loop-want : goal.invariant-loop-want
invariant-loop-want l = AreStated l.timing (drop l.want-index l.wants) ↔ AreStated l.timing l.wants
