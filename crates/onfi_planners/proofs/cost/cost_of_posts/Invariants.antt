use Rattle.std.proofs.Common.{◌≡◌, ◌+◌, ◌*◌, ◌^◌, ◌≤◌, drop}
use Rattle.onfi_planners.specs.Cost.{posts_cost}
use Rattle.onfi_planners.proofs.cost.cost_of_posts.Given as goal

abbrev pub invariant-loop-at : goal.invariant-loop-at
invariant-loop-at l = record {
  cost : l.cost + posts_cost l.posts l.weights (l.first + l.at) (drop l.at l.starts) ≡ posts_cost l.posts l.weights l.first l.starts;
  small : l.cost ≤ l.at * 2 ^ 80;
}
