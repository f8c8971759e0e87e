use Rattle.std.proofs.Common.{◌≡◌, take, sym, ap, ◌∙◌}
use Rattle.std.specs.Prelude.{slice_get}
use Rattle.onfi_demand.specs.Remaining.{posts_count}
use Rattle.onfi_demand.specs.Work.{left_of}
use Rattle.onfi_planners.specs.Cost.{left_cost, posts_cost}
use Rattle.onfi_planners.proofs.Costs.{left_costs, rest_costs}
use Rattle.onfi_planners.proofs.cost.cost_left.Goals as goal

pub returns-in-Rest-clause-value : goal.returns-in-Rest-clause-value
returns-in-Rest-clause-value c =
    let timing = c.args.timing.now in
    let kept = c.in-Rest in
    let sectors = take (posts_count kept.members kept.next) kept.sectors in
    let cost = rw c.posts.ensures.posts at c.cost_after.ensures.value in
    let reads = rest_costs timing c.args.weights.now c.args.starts.now sectors kept.operation kept.members kept.next _ _ _ c.of-lengths.ensures.lengths c.saturating_sub-first.ensures c.saturating_sub-commands.ensures in
    let same : left_cost timing c.args.weights.now (left_of c.left_on.result) c.args.starts.now ≡ c.cost_after.result = ap (λ z. left_cost timing c.args.weights.now (left_of z) c.args.starts.now) kept.is ∙ sym (cost ∙ reads) in
    left_costs (λ l. left_cost timing c.args.weights.now l c.args.starts.now) (slice_get c.args.problem.now.problem.luns c.args.lun) (left_of c.left_on.result) c.cost_after.result c.left_on.ensures.left same
