use Rattle.std.proofs.Common.{◌∙◌, arith, ap}
use Rattle.onfi_problem.specs.Left.{chain_time}
use Rattle.onfi_problem.proofs.Sums.{one_more}
use Rattle.onfi_problem.proofs.horizon.chains_time.Goals as goal

pub loop-state-preserved : goal.loop-state-preserved
loop-state-preserved c =
    let f = chain_time c.args.timing.now in
    record {
      value = one_more f c.args.luns.now c.loop-state.state-index c.state-item.result c.loop-state.total c.chain_time-total.result c.loop-state-test.true c.loop-state.invariant.value (c.chain_time-total.ensures.value ∙ ap f c.state-item.is);
      small = omega arith;
    }
