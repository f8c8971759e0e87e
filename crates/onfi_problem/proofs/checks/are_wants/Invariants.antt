use Rattle.std.proofs.Common.{◌↔◌, drop}
use Rattle.std.specs.List.{AllByRecursion as All}
use Rattle.onfi_problem.specs.Problem.{IsWant}
use Rattle.onfi_problem.proofs.checks.are_wants.Given as goal

abbrev pub invariant-loop-want : goal.invariant-loop-want
invariant-loop-want l = All IsWant (drop l.want-index l.wants) ↔ All IsWant l.wants
