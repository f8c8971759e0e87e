use Rattle.std.proofs.Common.{ap, arith, ◌∙◌}
use Rattle.std.specs.Prelude.{set}
use Rattle.std.proofs.Math.Seq.{map-set_same}
use Rattle.onfi_run.specs.Pace.{lane_key, woken}
use Rattle.onfi_run.proofs.Suited.{changed_past, changed_there}
use Rattle.onfi_run.proofs.simulation.VecLaneChannels.wake.Goals as goal

pub returns-then-channel-len-clause-same : goal.returns-then-channel-len-clause-same
returns-then-channel-len-clause-same g c =
    map-set_same (lane_key g.C.Channel.queues) c.args.self.now.items c.args.channel _ c.index_mut.result.now (ap (lane_key g.C.Channel.queues) c.index_mut.ensures.value)

pub returns-then-channel-len-clause-woken : goal.returns-then-channel-len-clause-woken
returns-then-channel-len-clause-woken g c =
    let lanes = c.args.self.now.items in
    let lane = c.index_mut.result.now in
    ap (λ p. set lanes c.args.channel (record lane { pace = p })) c.wake.ensures ∙ ap (λ l. set lanes c.args.channel (woken l)) c.index_mut.ensures.value
    ∙ changed_there woken lanes c.args.channel lane (omega (arith, c.if-channel-len.true, c.len.ensures))

pub returns-else-channel-len-clause-woken : goal.returns-else-channel-len-clause-woken
returns-else-channel-len-clause-woken g c = changed_past woken c.args.self.now.items c.args.channel (omega (arith, c.if-channel-len.false, c.len.ensures))
