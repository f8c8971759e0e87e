use Rattle.std.proofs.Common.{length, refl}
use Rattle.onfi_core.specs.declared.event.Event.TheVariants as event
use Rattle.onfi_core.specs.declared.outcome.Outcome.TheVariants as outcome
use Rattle.onfi_core.specs.State.{ChannelState}
use Rattle.onfi_core.specs.Steps.{IsAny, accepting}
use Rattle.onfi_core.proofs.Queueing.{front_is_next, queues_same}
use Rattle.onfi_core.proofs.Reaching.{any_reaches, events_reach}
use Rattle.onfi_core.proofs.Refused.{accepts}
use Rattle.onfi_core.proofs.channel.Channel.accept.Goals as goal

pub accept-requires-clause-next : goal.accept-requires-clause-next
accept-requires-clause-next g c =
    let i = c.self.invariant in
    let f = c.self.inside in
    let now : ChannelState = record { half = f.half.state; chip = g.C.Chip.state f.chip; sent = f.traffic.accepted; waiting = f.waiting.items; collected = f.traffic.posted } in
    front_is_next f.half.setup now c.in-Some.item c.pop_front.new.self.items (events_reach IsAny f.half.setup now i.reached).0 c.in-Some.ensures.items

pub invariant_of-self-2 : goal.invariant_of-self-2
invariant_of-self-2 g c =
    let i = c.self.invariant in
    let f = c.self.inside in
    let now : ChannelState = record { half = f.half.state; chip = g.C.Chip.state f.chip; sent = f.traffic.accepted; waiting = f.waiting.items; collected = f.traffic.posted } in
    let after : ChannelState = record now { half = accepting f.half.setup f.half.state c.in-Some.item; waiting = c.pop_front.new.self.items } in
    let reached = any_reaches f.half.setup now (event.Accept 0) (outcome.Accepted (length f.half.state.accepted)) after i.reached (accepts f.half.setup now after 0 c.in-Some.item c.pop_front.new.self.items c.in-None.ensures c.in-Some.ensures.items refl) in
    let q = queues_same f.half.setup _ f.half.lent _ _ f.hosts.items _ _ now after i reached i.lanes_are refl refl refl i.settled c.pop_front.ensures.capacity in
    rw c.accept.ensures.accepted q
