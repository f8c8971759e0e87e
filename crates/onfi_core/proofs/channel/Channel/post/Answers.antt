use Rattle.std.proofs.Common.{◌≡◌, ℕ, ◌<◌, ◌≤◌, length, refl, sym, ap, ◌∙◌, subst, arith}
use Rattle.std.specs.VecDeque.{deque_capacity}
use Rattle.onfi_core.specs.declared.event.Event.TheVariants as event
use Rattle.onfi_core.specs.declared.host_queue.HostQueue.{HostQueue}
use Rattle.onfi_core.specs.declared.outcome.Outcome.TheVariants as outcome
use Rattle.onfi_core.specs.declared.setup.Setup.{Setup}
use Rattle.onfi_core.specs.State.{ChannelState, HalfState}
use Rattle.onfi_core.specs.Steps.{Step, not_collected}
use Rattle.onfi_core.specs.View.{HalfView}
use Rattle.onfi_core.proofs.Queueing.{outside, queue_there, queues_posted, same_queue, uncollected_count}
use Rattle.onfi_core.proofs.Reaching.{any_reaches}
use Rattle.onfi_core.proofs.Refused.{post_full, post_open, step_does}
use Rattle.onfi_core.proofs.channel.Channel.post.Goals as goal

pub push_back_reserved-requires : goal.push_back_reserved-requires
push_back_reserved-requires g c =
    let i = c.self.invariant in
    let f = c.self.inside in
    let now : ChannelState = record { half = f.half.state; chip = g.C.Chip.state f.chip; sent = f.traffic.accepted; waiting = f.waiting.items; collected = f.traffic.posted } in
    let within : c.from-at.result < length f.hosts.items = omega (arith, c.if-at-len.false, c.len.ensures, f.hosts.ok.0) in
    let known : c.args.host < f.half.setup.hosts = omega (arith, within, c.from-at.ensures, i.count) in
    let there = queue_there f.hosts.items c.from-at.result c.args.host c.index.result.now within c.index.ensures c.from-at.ensures in
    let own = i.each c.args.host c.index.result.now there in
    let count = uncollected_count f.half.setup now c.args.host c.index.result.now own in
    let r = c.in-Some.reply in
    let lent = c.in-Some.ensures.lent in
    let cap : c.setup.result.post_cap ≡ f.half.setup.post_cap = ap (λ (s : Setup). s.post_cap) (c.setup.ensures ∙ ap (λ (v : HalfView). v.setup) lent) in
    let len = c.index.result.now.completions.ok.0 in
    let there' = queue_there f.hosts.items c.from-at.result c.args.host c.index_mut.result.now within c.index_mut.ensures.value c.from-at.ensures in
    let q = same_queue f.hosts.items c.args.host c.index_mut.result.now c.index.result.now there' there in
    let len' = ap (λ (x : HostQueue). x.completions.len) q in
    let room = ap (λ (x : HostQueue). deque_capacity x.completions) q in
    let enough = own.room in
    omega (arith, c.if-len-from.false, c.len-2.ensures, c.from.ensures, cap)

pub returns-then-len-from-clause-step : goal.returns-then-len-from-clause-step
returns-then-len-from-clause-step g c channel =
    let i = c.self.invariant in
    let f = c.self.inside in
    let now : ChannelState = record { half = f.half.state; chip = g.C.Chip.state f.chip; sent = f.traffic.accepted; waiting = f.waiting.items; collected = f.traffic.posted } in
    let within : c.from-at.result < length f.hosts.items = omega (arith, c.if-at-len.false, c.len.ensures, f.hosts.ok.0) in
    let known : c.args.host < f.half.setup.hosts = omega (arith, within, c.from-at.ensures, i.count) in
    let there = queue_there f.hosts.items c.from-at.result c.args.host c.index.result.now within c.index.ensures c.from-at.ensures in
    let own = i.each c.args.host c.index.result.now there in
    let count = uncollected_count f.half.setup now c.args.host c.index.result.now own in
    let r = c.in-Some.reply in
    let lent = c.in-Some.ensures.lent in
    let cap : c.setup.result.post_cap ≡ f.half.setup.post_cap = ap (λ (s : Setup). s.post_cap) (c.setup.ensures ∙ ap (λ (v : HalfView). v.setup) lent) in
    let len = c.index.result.now.completions.ok.0 in
    let full : f.half.setup.post_cap ≤ not_collected c.args.host now = omega (arith, c.if-len-from.true, c.len-2.ensures, c.from.ensures, cap, count, len) in
    let back : c.keep.new.self.state ≡ f.half.state = ap (λ (v : HalfView). v.state) c.keep.ensures ∙ ap (λ (v : HalfView). v.state) lent in
    let P : HalfState → Type 0 = λ h. Step f.half.setup now (event.Post channel c.args.host) outcome.PostFull (record now { half = h }) in
    outside g.C.Chip.state _ _ (event.Post channel c.args.host) outcome.PostFull (record now { half = c.keep.new.self.state }) c.self.view_is
    (subst P (sym back) (post_full f.half.setup now c.args.host channel known r c.in-Some.ensures.oldest full))

pub invariant_of-self-2 : goal.invariant_of-self-2
invariant_of-self-2 g c =
    let i = c.self.invariant in
    let f = c.self.inside in
    let now : ChannelState = record { half = f.half.state; chip = g.C.Chip.state f.chip; sent = f.traffic.accepted; waiting = f.waiting.items; collected = f.traffic.posted } in
    let within : c.from-at.result < length f.hosts.items = omega (arith, c.if-at-len.false, c.len.ensures, f.hosts.ok.0) in
    let known : c.args.host < f.half.setup.hosts = omega (arith, within, c.from-at.ensures, i.count) in
    let there = queue_there f.hosts.items c.from-at.result c.args.host c.index.result.now within c.index.ensures c.from-at.ensures in
    let own = i.each c.args.host c.index.result.now there in
    let count = uncollected_count f.half.setup now c.args.host c.index.result.now own in
    let r = c.in-Some.reply in
    let lent = c.in-Some.ensures.lent in
    let cap : c.setup.result.post_cap ≡ f.half.setup.post_cap = ap (λ (s : Setup). s.post_cap) (c.setup.ensures ∙ ap (λ (v : HalfView). v.setup) lent) in
    let len = c.index.result.now.completions.ok.0 in
    let room : not_collected c.args.host now < f.half.setup.post_cap = omega (arith, c.if-len-from.false, c.len-2.ensures, c.from.ensures, cap, count, len) in
    let goes = rw lent at c.posted.ensures.posted in
    let after : ChannelState = record now { half = c.posted.new.self.state } in
    let step : (n : ℕ) → Step f.half.setup now (event.Post n c.args.host) (outcome.Posted r.place) after = λ channel. step_does f.half.setup now (event.Post channel c.args.host) (outcome.Posted r.place) after (post_open f.half.setup now c.args.host channel known r c.in-Some.ensures.oldest room) (r, c.posted.new.self.state, refl, goes, refl) in
    let reached = any_reaches f.half.setup now (event.Post 0 c.args.host) (outcome.Posted r.place) after i.reached (step 0) in
    let there' = queue_there f.hosts.items c.from-at.result c.from-at.result c.index_mut.result.now within c.index_mut.ensures.value refl in
    let setup = c.posted.ensures.setup ∙ ap (λ (v : HalfView). v.setup) lent in
    let p = ap (λ (h : HalfState). h.posted) goes.after in
    rw setup (queues_posted f.half.setup _ c.posted.new.self.lent _ _ f.hosts.items _ _ now after i reached (λ going. i.lanes_are (sym (ap (λ (h : HalfState). h.stopped) goes.after) ∙ going)) c.posted.ensures.settled refl c.from-at.result c.index_mut.result.now (record { sent = c.index_mut.result.now.sent; completions = c.push_back_reserved.new.self }) there' refl
    r (goes.own ∙ sym c.from-at.ensures) refl p refl refl c.push_back_reserved.ensures.items c.push_back_reserved.ensures.capacity)

pub returns-clause-step : goal.returns-clause-step
returns-clause-step g c channel =
    let i = c.self.invariant in
    let f = c.self.inside in
    let now : ChannelState = record { half = f.half.state; chip = g.C.Chip.state f.chip; sent = f.traffic.accepted; waiting = f.waiting.items; collected = f.traffic.posted } in
    let within : c.from-at.result < length f.hosts.items = omega (arith, c.if-at-len.false, c.len.ensures, f.hosts.ok.0) in
    let known : c.args.host < f.half.setup.hosts = omega (arith, within, c.from-at.ensures, i.count) in
    let there = queue_there f.hosts.items c.from-at.result c.args.host c.index.result.now within c.index.ensures c.from-at.ensures in
    let own = i.each c.args.host c.index.result.now there in
    let count = uncollected_count f.half.setup now c.args.host c.index.result.now own in
    let r = c.in-Some.reply in
    let lent = c.in-Some.ensures.lent in
    let cap : c.setup.result.post_cap ≡ f.half.setup.post_cap = ap (λ (s : Setup). s.post_cap) (c.setup.ensures ∙ ap (λ (v : HalfView). v.setup) lent) in
    let len = c.index.result.now.completions.ok.0 in
    let room : not_collected c.args.host now < f.half.setup.post_cap = omega (arith, c.if-len-from.false, c.len-2.ensures, c.from.ensures, cap, count, len) in
    let goes = rw lent at c.posted.ensures.posted in
    let after : ChannelState = record now { half = c.posted.new.self.state } in
    let step : (n : ℕ) → Step f.half.setup now (event.Post n c.args.host) (outcome.Posted r.place) after = λ channel. step_does f.half.setup now (event.Post channel c.args.host) (outcome.Posted r.place) after (post_open f.half.setup now c.args.host channel known r c.in-Some.ensures.oldest room) (r, c.posted.new.self.state, refl, goes, refl) in
    outside g.C.Chip.state _ _ (event.Post channel c.args.host) (outcome.Posted r.place) after c.self.view_is (step channel)
