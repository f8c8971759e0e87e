use Rattle.std.proofs.Common.{◌∙◌}
use Rattle.onfi_calls.specs.Problem.{state_of}
use Rattle.onfi_flight.proofs.Lists.{mapped_more, mapped_all}
use Rattle.onfi_calls.proofs.problem.states_of.Goals as goal

pub loop-lun-preserved : goal.loop-lun-preserved
loop-lun-preserved c =
    c.in_ok-push.ensures.items ∙ mapped_more (state_of c.args.plane_bits) c.args.said.now c.loop-lun.lun-index c.loop-lun.states.items _ c.state_of.result c.loop-lun-test.true c.state_of.ensures c.loop-lun.invariant

pub returns : goal.returns
returns c = mapped_all (state_of c.args.plane_bits) c.args.said.now c.loop-lun.lun-index c.loop-lun.states.items c.loop-lun-test.false c.loop-lun.invariant
