use Rattle.std.proofs.Common.{arith}
use Rattle.onfi_planners.proofs.Costs.{rest_next}
use Rattle.onfi_planners.proofs.cost.cost_of_rest.Goals as goal

pub loop-lun-preserved : goal.loop-lun-preserved
loop-lun-preserved c =
    let at = c.loop-lun.lun in
    let ts = c.index-rest-lun.result in
    let next = rest_next c.args.timing.now c.args.weights.now c.args.problem.now.problem.luns c.args.rest.now at at c.cost_left-cost.result ts ts c.loop-lun-test.true c.index-rest-lun.is c.cost_left-cost.ensures.value in
    let small = c.loop-lun.invariant.small in
    record { cost = omega arith; small = omega arith }
