use Rattle.std.proofs.Common.{◌≡◌, ◌+◌, ◌*◌, ◌^◌, ◌≤◌, drop}
use Rattle.onfi_group.specs.Words.{total}
use Rattle.onfi_schedule.specs.Conditions.{start_count}
use Rattle.onfi_planners.specs.Cost.{group_cost}
use Rattle.onfi_planners.proofs.cost.cost_of_groups.Given as goal

abbrev pub invariant-loop-group : goal.invariant-loop-group
invariant-loop-group l = record {
  cost : l.cost + total (group_cost l.timing l.wants l.weights) (drop l.group-index l.groups) ≡ total (group_cost l.timing l.wants l.weights) l.groups;
  small : l.cost + start_count (drop l.group-index l.groups) * 2 ^ 80 ≤ 16 * 2 ^ 80;
}
