use Rattle.std.proofs.Common.{◌≡◌, ◌+◌, ◌*◌, ◌≤◌}
use Rattle.onfi_planner.specs.Planning.{work}
use Rattle.onfi_planners.specs.Steps.{IsFound}
use Rattle.onfi_planners.proofs.walk.+search.Given as goal

abbrev pub decreases-search : goal.decreases-search
decreases-search l = 3 * work l.problem.now.problem + 2

abbrev pub decreases-search_children : goal.decreases-search_children
decreases-search_children l = 3 * work l.problem.now.problem + 1

abbrev pub decreases-visit : goal.decreases-visit
decreases-visit l = 3 * work l.problem.now.problem

abbrev pub invariant-search_children-loop : goal.invariant-search_children-loop
invariant-search_children-loop l = record {
  problem : l.problem ≡ l.fn.problem;
  found : IsFound l.fn.problem l.fn.best l.best l.improved;
  spent : l.notes.left ≤ l.fn.notes.left;
}
