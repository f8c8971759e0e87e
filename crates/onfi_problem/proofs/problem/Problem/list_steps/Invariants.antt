use Rattle.std.proofs.Common.{◌≡◌, take}
use Rattle.std.specs.List.{AllByRecursion as All}
use Rattle.onfi_problem.specs.Position.{moves_of}
use Rattle.onfi_problem.specs.Starts.{IsNamed, can_start}
use Rattle.onfi_problem.proofs.Ordered.{moves_from}
use Rattle.onfi_problem.proofs.Steps.{own_groups}
use Rattle.onfi_problem.proofs.problem.Problem.list_steps.Given as goal

abbrev pub invariant-loop-at : goal.invariant-loop-at
invariant-loop-at l = record {
  moves : moves_of l.self.groups l.moves ≡ moves_from (own_groups l.self.groups l.self-inside.first) (can_start l.self.problem.wants) 0 (take l.at l.self.problem.luns);
  named : All (IsNamed l.self.groups) l.moves;
}
