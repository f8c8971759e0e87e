use Rattle.std.proofs.Common.{refl, sym, ap, subst, ◌∙◌}
use Rattle.onfi_chip.specs.Chip.{Chip, found_ready}
use Rattle.onfi_core.specs.Reaching.{Reaches}
use Rattle.onfi_core.specs.State.{ChannelState}
use Rattle.onfi_core.specs.View.{HalfView}
use Rattle.onfi_core.specs.declared.event.Event.TheVariants as event
use Rattle.onfi_core.specs.declared.outcome.Outcome.TheVariants as outcome
use Rattle.onfi_core.specs.Steps.{IsAny}
use Rattle.onfi_core.proofs.Queueing.{queues_same}
use Rattle.onfi_core.proofs.Reaching.{any_reaches}
use Rattle.onfi_core.proofs.Refused.{finds_ready}
use Rattle.onfi_core.proofs.channel.Channel.ready.Goals as goal

pub invariant_of-self : goal.invariant_of-self
invariant_of-self g c =
    let i = c.self.invariant in
    let f = c.self.inside in
    let now : ChannelState = record { half = f.half.state; chip = g.C.Chip.state f.chip; sent = f.traffic.accepted; waiting = f.waiting.items; collected = f.traffic.posted } in
    let e = c.ready-ready.ensures in
    let chip = g.C.Chip.state c.ask.new.chip in
    let found = c.if-ask.ensures.ready refl ∙ ap (λ n. found_ready (g.C.Chip.state f.chip) c.args.lun n) c.bus_free-now.ensures in
    let after : ChannelState = record now { half = c.ready-ready.new.self.state; chip = chip } in
    let step = finds_ready f.half.setup now 0 c.args.lun c.ready-ready.result c.ready-ready.new.self.state chip c.in_default.ensures e.ready (ap (λ (v : HalfView). v.state) e.readied) found in
    let reached = any_reaches f.half.setup now (event.Ready 0 c.args.lun) (outcome.ReadyFrom c.ready-ready.result) after i.reached step in
    let posted = ap (λ (v : HalfView). v.state.posted) e.readied in
    let lent = ap (λ (v : HalfView). v.lent) e.readied ∙ i.settled in
    let setup = ap (λ (v : HalfView). v.setup) e.readied in
    rw setup (queues_same f.half.setup _ c.ready-ready.new.self.lent _ _ f.hosts.items _ _ now after i reached (λ going. c.if-ask.ensures.agree) refl posted refl lent refl)

pub invariant_of-self-else-ask : goal.invariant_of-self-else-ask
invariant_of-self-else-ask g c =
    let i = c.self.invariant in
    let f = c.self.inside in
    let now : ChannelState = record { half = f.half.state; chip = g.C.Chip.state f.chip; sent = f.traffic.accepted; waiting = f.waiting.items; collected = f.traffic.posted } in
    let chip = g.C.Chip.state c.ask.new.chip in
    let after : ChannelState = record now { chip = chip } in
    let reached = subst (λ (x : Chip). Reaches IsAny f.half.setup (record now { chip = x })) (sym (c.if-ask.ensures.busy refl)) i.reached in
    queues_same f.half.setup _ f.half.lent _ _ f.hosts.items _ _ now after i reached (λ going. c.if-ask.ensures.agree) refl refl refl i.settled refl
