use Rattle.onfi_problem.specs.Position.{moves_of}
use Rattle.onfi_planner.specs.Opening.{YieldsSoFar}
use Rattle.onfi_planner.proofs.yields.yields_of.Given as goal

abbrev pub invariant-loop-own : goal.invariant-loop-own
invariant-loop-own l = YieldsSoFar l.problem.problem (moves_of l.problem.groups l.moves) l.yields l.awaited
