use Rattle.std.proofs.Common.{◌≡◌, ◌+◌, ◌*◌, ◌^◌, ◌≤◌, drop}
use Rattle.onfi_planners.specs.Cost.{rest_cost}
use Rattle.onfi_planners.proofs.cost.cost_of_rest.Given as goal

abbrev pub invariant-loop-lun : goal.invariant-loop-lun
invariant-loop-lun l = record {
  cost : l.cost + rest_cost l.timing l.weights l.lun (drop l.lun l.problem.problem.luns) (drop l.lun l.rest) ≡ rest_cost l.timing l.weights 0 l.problem.problem.luns l.rest;
  small : l.cost ≤ l.lun * (8 * 2 ^ 80);
}
