use Rattle.std.proofs.Common.{◌≡◌, ◌+◌, ◌*◌, take}
use Rattle.onfi_problem.specs.Position.{moves_of}
use Rattle.onfi_planner.specs.Planning.{work}
use Rattle.onfi_known_plan.specs.Walks.{Halfway}
use Rattle.onfi_known_plan.proofs.search.+search.Given as goal

abbrev pub decreases-search : goal.decreases-search
decreases-search l = 4 * work l.problem.now.problem + 3

abbrev pub decreases-search_open : goal.decreases-search_open
decreases-search_open l = 4 * work l.problem.now.problem + 2

abbrev pub decreases-search_child : goal.decreases-search_child
decreases-search_child l = 4 * work l.problem.now.problem + 1

abbrev pub decreases-visit : goal.decreases-visit
decreases-visit l = 4 * work l.problem.now.problem

abbrev pub invariant-search_open-loop-step : goal.invariant-search_open-loop-step
invariant-search_open-loop-step l = record {
  problem : l.problem ≡ l.fn.problem;
  half : Halfway l.fn.problem (moves_of l.fn.problem.groups l.listed) (moves_of l.fn.problem.groups (take l.step-index l.listed)) l.soonest l.fn.best l.best l.fn.notes l.notes l.standing;
}
