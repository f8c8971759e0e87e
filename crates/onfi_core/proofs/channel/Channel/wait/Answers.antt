use Rattle.std.proofs.Common.{◌∙◌, sym, refl, subst}
use Rattle.onfi_core.specs.Refusals.{waited_outcome}
use Rattle.onfi_core.specs.State.{ChannelState}
use Rattle.onfi_core.specs.declared.event.Event.TheVariants as event
use Rattle.onfi_core.specs.declared.outcome.Outcome.{Outcome}
use Rattle.onfi_core.specs.Steps.{Step}
use Rattle.onfi_core.proofs.Queueing.{outside, queues_same}
use Rattle.onfi_core.proofs.Reaching.{any_reaches}
use Rattle.onfi_core.proofs.Refused.{after_waiting, waiting_posts, waiting_stops}
use Rattle.onfi_core.proofs.channel.Channel.wait.Goals as goal

pub invariant_of-self : goal.invariant_of-self
invariant_of-self g c =
    let i = c.self.invariant in
    let f = c.self.inside in
    let now : ChannelState = record { half = f.half.state; chip = g.C.Chip.state f.chip; sent = f.traffic.accepted; waiting = f.waiting.items; collected = f.traffic.posted } in
    let e = c.wait-waited.ensures in
    let new = c.wait-waited.new.self in
    let after : ChannelState = record now { half = new.state } in
    let step = after_waiting f.half.setup now 0 c.args.moment f.half new c.wait-waited.result refl e.waited e.refused e.unchanged in
    let posted = waiting_posts f.half.setup now c.args.moment f.half new c.wait-waited.result refl e.waited e.unchanged in
    let stopped = waiting_stops f.half.setup now c.args.moment f.half new c.wait-waited.result refl e.waited e.unchanged in
    let reached = any_reaches f.half.setup now (event.Wait 0 c.args.moment) (waited_outcome c.wait-waited.result) after i.reached step in
    let q = queues_same f.half.setup _ new.lent _ _ f.hosts.items _ _ now after i reached (λ going. i.lanes_are (sym stopped ∙ going)) refl posted refl e.settled refl in
    rw e.setup q

pub returns-clause-step : goal.returns-clause-step
returns-clause-step g c channel =
    let f = c.self.inside in
    let now : ChannelState = record { half = f.half.state; chip = g.C.Chip.state f.chip; sent = f.traffic.accepted; waiting = f.waiting.items; collected = f.traffic.posted } in
    let e = c.wait-waited.ensures in
    let after : ChannelState = record now { half = c.wait-waited.new.self.state } in
    let step = after_waiting f.half.setup now channel c.args.moment f.half c.wait-waited.new.self c.wait-waited.result refl e.waited e.refused e.unchanged in
    let P : Outcome → Type 0 = λ o. Step f.half.setup now (event.Wait channel c.args.moment) o after in
    outside g.C.Chip.state _ _ (event.Wait channel c.args.moment) c.waited_outcome.result after c.self.view_is (subst P (sym c.waited_outcome.ensures) step)
