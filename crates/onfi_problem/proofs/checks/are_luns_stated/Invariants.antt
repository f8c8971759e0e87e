use Rattle.std.proofs.Common.{◌↔◌, drop}
use Rattle.std.specs.List.{AllByRecursion as All}
use Rattle.onfi_problem.specs.Problem.{IsLunStated}
use Rattle.onfi_problem.proofs.checks.are_luns_stated.Given as goal

abbrev pub invariant-loop-state : goal.invariant-loop-state
invariant-loop-state l = All (IsLunStated l.timing) (drop l.state-index l.luns) ↔ All (IsLunStated l.timing) l.luns
