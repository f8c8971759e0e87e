use Rattle.std.proofs.Common.{◌≡◌, ◌++◌}
use Rattle.std.specs.List.{AllByRecursion as All}
use Rattle.onfi_problem.specs.Position.{moves_of}
use Rattle.onfi_problem.specs.Starts.{starts, IsNamed}
use Rattle.onfi_problem.proofs.problem.Problem.starts.Given as goal

abbrev pub invariant-loop-place : goal.invariant-loop-place
invariant-loop-place l = record {
  moves : moves_of l.self.groups l.moves ≡ moves_of l.self.groups l.fn.moves ++ starts l.self.problem.wants l.self.groups l.from l.place;
  named : All (IsNamed l.self.groups) l.fn.moves → All (IsNamed l.self.groups) l.moves;
}
