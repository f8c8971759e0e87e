use Rattle.std.proofs.Common.{◌≡◌, ◌<◌, ◌∷◌, length, refl, sym, ap, arith}
use Rattle.onfi_core.specs.declared.event.Event.TheVariants as event
use Rattle.onfi_core.specs.declared.outcome.Outcome.TheVariants as outcome
use Rattle.onfi_core.specs.State.{ChannelState}
use Rattle.onfi_core.proofs.Queueing.{collected_is, host_collected, next_collected, outside, queue_there, queues_collected, queues_kept, uncollected_count}
use Rattle.onfi_core.proofs.Reaching.{any_reaches}
use Rattle.onfi_core.proofs.Refused.{collect_open, nothing_to_collect, step_does}
use Rattle.onfi_core.proofs.channel.Channel.collect.Goals as goal

pub invariant_of-self : goal.invariant_of-self
invariant_of-self g c =
    let i = c.self.invariant in
    let f = c.self.inside in
    let now : ChannelState = record { half = f.half.state; chip = g.C.Chip.state f.chip; sent = f.traffic.accepted; waiting = f.waiting.items; collected = f.traffic.posted } in
    let queue = c.index_mut.result.now in
    let within : c.from-at.result < length f.hosts.items = omega (arith, c.if-at-len.false, c.len.ensures, f.hosts.ok.0) in
    let there = queue_there f.hosts.items c.from-at.result c.from-at.result queue within c.index_mut.ensures.value refl in
    queues_kept f.half.setup _ _ _ _ f.hosts.items _ _ now now i i.reached i.lanes_are i.settled refl c.from-at.result queue (record { sent = queue.sent; completions = c.pop_front.new.self }) there refl refl refl refl refl (sym c.in_default.ensures.items) c.pop_front.ensures.capacity

pub returns-in_default-clause-step : goal.returns-in_default-clause-step
returns-in_default-clause-step g c channel =
    let i = c.self.invariant in
    let f = c.self.inside in
    let now : ChannelState = record { half = f.half.state; chip = g.C.Chip.state f.chip; sent = f.traffic.accepted; waiting = f.waiting.items; collected = f.traffic.posted } in
    let queue = c.index_mut.result.now in
    let within : c.from-at.result < length f.hosts.items = omega (arith, c.if-at-len.false, c.len.ensures, f.hosts.ok.0) in
    let known : c.args.host < f.half.setup.hosts = omega (arith, within, c.from-at.ensures, i.count) in
    let there = queue_there f.hosts.items c.from-at.result c.args.host queue within c.index_mut.ensures.value c.from-at.ensures in
    let count = uncollected_count f.half.setup now c.args.host queue (i.each c.args.host queue there) in
    let empty = c.in_default.ensures.cases.0 in
    let len = queue.completions.ok.0 in
    outside g.C.Chip.state _ _ (event.Collect channel c.args.host) outcome.NothingToCollect now c.self.view_is (nothing_to_collect f.half.setup now c.args.host channel known (omega arith))

pub invariant_of-self-2 : goal.invariant_of-self-2
invariant_of-self-2 g c =
    let i = c.self.invariant in
    let f = c.self.inside in
    let now : ChannelState = record { half = f.half.state; chip = g.C.Chip.state f.chip; sent = f.traffic.accepted; waiting = f.waiting.items; collected = f.traffic.posted } in
    let queue = c.index_mut.result.now in
    let r = c.in-Some.reply in
    let within : c.from-at.result < length f.hosts.items = omega (arith, c.if-at-len.false, c.len.ensures, f.hosts.ok.0) in
    let there = queue_there f.hosts.items c.from-at.result c.from-at.result queue within c.index_mut.ensures.value refl in
    let at = next_collected f.half.setup now c.from-at.result queue r c.pop_front.new.self.items (i.each c.from-at.result queue there) c.in-Some.ensures.items in
    let e = c.with_collected-self-inside.ensures in
    let same = collected_is now r c.with_collected-self-inside.result.accepted c.with_collected-self-inside.result.posted e.0 e.2 in
    let known : c.from-at.result < f.half.setup.hosts = omega (arith, within, i.count) in
    let count = uncollected_count f.half.setup now c.from-at.result queue (i.each c.from-at.result queue there) in
    let some : length queue.completions.items ≡ length (r ∷ c.pop_front.new.self.items) = ap length c.in-Some.ensures.items in
    let after : ChannelState = record now { sent = c.with_collected-self-inside.result.accepted; collected = c.with_collected-self-inside.result.posted } in
    let step = step_does f.half.setup now (event.Collect 0 c.from-at.result) (outcome.Collected r) after (collect_open f.half.setup now c.from-at.result 0 known (omega arith)) (r, refl, at, same) in
    let reached = any_reaches f.half.setup now (event.Collect 0 c.from-at.result) (outcome.Collected r) after i.reached step in
    queues_collected f.half.setup _ _ _ _ f.hosts.items _ _ now _ i reached i.lanes_are i.settled refl c.from-at.result queue (record { sent = queue.sent; completions = c.pop_front.new.self }) there refl r (host_collected f.half.setup now c.from-at.result r at) e.0 refl e.2 refl c.in-Some.ensures.items c.pop_front.ensures.capacity

pub returns-clause-step : goal.returns-clause-step
returns-clause-step g c channel =
    let i = c.self.invariant in
    let f = c.self.inside in
    let now : ChannelState = record { half = f.half.state; chip = g.C.Chip.state f.chip; sent = f.traffic.accepted; waiting = f.waiting.items; collected = f.traffic.posted } in
    let queue = c.index_mut.result.now in
    let r = c.in-Some.reply in
    let within : c.from-at.result < length f.hosts.items = omega (arith, c.if-at-len.false, c.len.ensures, f.hosts.ok.0) in
    let known : c.args.host < f.half.setup.hosts = omega (arith, within, c.from-at.ensures, i.count) in
    let there = queue_there f.hosts.items c.from-at.result c.args.host queue within c.index_mut.ensures.value c.from-at.ensures in
    let own = i.each c.args.host queue there in
    let at = next_collected f.half.setup now c.args.host queue r c.pop_front.new.self.items own c.in-Some.ensures.items in
    let count = uncollected_count f.half.setup now c.args.host queue own in
    let some : length queue.completions.items ≡ length (r ∷ c.pop_front.new.self.items) = ap length c.in-Some.ensures.items in
    let e = c.with_collected-self-inside.ensures in
    let same = collected_is now r c.with_collected-self-inside.result.accepted c.with_collected-self-inside.result.posted e.0 e.2 in
    outside g.C.Chip.state _ _ (event.Collect channel c.args.host) (outcome.Collected r) (record now { sent = c.with_collected-self-inside.result.accepted; collected = c.with_collected-self-inside.result.posted }) c.self.view_is (step_does f.half.setup now (event.Collect channel c.args.host) (outcome.Collected r) _ (collect_open f.half.setup now c.args.host channel known (omega arith)) (r, refl, at, same))
