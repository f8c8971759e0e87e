use Rattle.std.proofs.Common.{◌≡◌, ◌+◌, ◌*◌}
use Rattle.onfi_planner.specs.Planning.{work}
use Rattle.onfi_check.specs.Nodes.{IsOpen}
use Rattle.onfi_planner.proofs.Halfway.{Halfway, Listed}
use Rattle.onfi_planner.proofs.search.+search.Given as goal

abbrev pub decreases-search : goal.decreases-search
decreases-search l = 2 * work l.problem.now.problem + 1

abbrev pub decreases-visit : goal.decreases-visit
decreases-visit l = 2 * work l.problem.now.problem

abbrev pub invariant-search-loop-step : goal.invariant-search-loop-step
invariant-search-loop-step l = record {
  problem : l.problem ≡ l.fn.problem;
  listed : Listed l.fn.problem l.steps;
  open_at : IsOpen l.fn.best.finish l.fn.problem.problem;
  half : Halfway l.fn.problem l.steps l.yields l.step-index l.fn.best l.best l.improved l.fn.count.opened l.count.opened l.fn.count.limit;
  limit : l.count.limit ≡ l.fn.count.limit;
}
