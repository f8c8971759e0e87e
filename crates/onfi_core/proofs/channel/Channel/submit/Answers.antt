use Rattle.std.proofs.Common.{◌≡◌, ℕ, ◌+◌, ◌<◌, ◌≤◌, ◌^◌, length, None, refl, sym, ap, ◌∙◌, arith}
use Rattle.onfi_core.specs.declared.event.Event.TheVariants as event
use Rattle.onfi_core.specs.declared.outcome.Outcome.TheVariants as outcome
use Rattle.onfi_core.specs.declared.setup.Setup.{Setup}
use Rattle.onfi_core.specs.State.{ChannelState}
use Rattle.onfi_core.specs.Steps.{Step, fault_of, refusal}
use Rattle.onfi_core.proofs.Queueing.{outside, outside_same, queue_there, queues_sent, submitted_is}
use Rattle.onfi_core.proofs.Reaching.{any_reaches}
use Rattle.onfi_core.proofs.Refused.{serials_spent, step_does, submit_full, submit_open}
use Rattle.onfi_core.proofs.channel.Channel.submit.Goals as goal

pub returns-in_default-next_serial-clause-step : goal.returns-in_default-next_serial-clause-step
returns-in_default-next_serial-clause-step g c channel =
    let i = c.self.invariant in
    let f = c.self.inside in
    let now : ChannelState = record { half = f.half.state; chip = g.C.Chip.state f.chip; sent = f.traffic.accepted; waiting = f.waiting.items; collected = f.traffic.posted } in
    let within : c.from-at.result < length f.hosts.items = omega (arith, c.if-at-len.false, c.len.ensures, f.hosts.ok.0) in
    let known : c.args.host < f.half.setup.hosts = omega (arith, within, c.from-at.ensures, i.count) in
    let there = queue_there f.hosts.items c.from-at.result c.args.host c.index.result.now within c.index.ensures c.from-at.ensures in
    let count = (i.each c.args.host c.index.result.now there).sent in
    let fine : fault_of f.half.setup.geometry c.args.request ≡ None = sym (c.fault_of.ensures ∙ ap (λ (s : Setup). fault_of s.geometry c.args.request) c.setup-setup.ensures) ∙ c.in_default.is in
    let spent : 2 ^ 32 ≤ c.index.result.now.sent = rw c.in_default-next_serial.is at c.next_serial.ensures in
    outside_same g.C.Chip.state _ _ (event.Submit c.args.host channel c.args.request) (outcome.SerialsSpent c.args.request) c.self.view_is (serials_spent f.half.setup now c.args.host channel c.args.request known fine (omega (arith, spent, count)))

pub returns-then-len-from-clause-step : goal.returns-then-len-from-clause-step
returns-then-len-from-clause-step g c channel =
    let i = c.self.invariant in
    let f = c.self.inside in
    let now : ChannelState = record { half = f.half.state; chip = g.C.Chip.state f.chip; sent = f.traffic.accepted; waiting = f.waiting.items; collected = f.traffic.posted } in
    let within : c.from-at.result < length f.hosts.items = omega (arith, c.if-at-len.false, c.len.ensures, f.hosts.ok.0) in
    let known : c.args.host < f.half.setup.hosts = omega (arith, within, c.from-at.ensures, i.count) in
    let there = queue_there f.hosts.items c.from-at.result c.args.host c.index.result.now within c.index.ensures c.from-at.ensures in
    let count = (i.each c.args.host c.index.result.now there).sent in
    let fine : fault_of f.half.setup.geometry c.args.request ≡ None = sym (c.fault_of.ensures ∙ ap (λ (s : Setup). fault_of s.geometry c.args.request) c.setup-setup.ensures) ∙ c.in_default.is in
    let low = c.in-Some-next_serial.ensures.1 in
    let cap = ap (λ (s : Setup). s.submit_cap) c.setup-setup.ensures in
    let full : f.half.setup.submit_cap ≤ length f.waiting.items = omega (arith, c.if-len-from.true, c.len-2.ensures, c.from.ensures, cap, f.waiting.ok.0) in
    outside_same g.C.Chip.state _ _ (event.Submit c.args.host channel c.args.request) (outcome.SubmitFull c.args.request) c.self.view_is (submit_full f.half.setup now c.args.host channel c.args.request known fine (omega arith) full)

pub invariant_of-self : goal.invariant_of-self
invariant_of-self g c =
    let i = c.self.invariant in
    let f = c.self.inside in
    let now : ChannelState = record { half = f.half.state; chip = g.C.Chip.state f.chip; sent = f.traffic.accepted; waiting = f.waiting.items; collected = f.traffic.posted } in
    let within : c.from-at.result < length f.hosts.items = omega (arith, c.if-at-len.false, c.len.ensures, f.hosts.ok.0) in
    let known : c.args.host < f.half.setup.hosts = omega (arith, within, c.from-at.ensures, i.count) in
    let there = queue_there f.hosts.items c.from-at.result c.args.host c.index.result.now within c.index.ensures c.from-at.ensures in
    let count = (i.each c.args.host c.index.result.now there).sent in
    let fine : fault_of f.half.setup.geometry c.args.request ≡ None = sym (c.fault_of.ensures ∙ ap (λ (s : Setup). fault_of s.geometry c.args.request) c.setup-setup.ensures) ∙ c.in_default.is in
    let low = c.in-Some-next_serial.ensures.1 in
    let cap = ap (λ (s : Setup). s.submit_cap) c.setup-setup.ensures in
    let room : length f.waiting.items < f.half.setup.submit_cap = omega (arith, c.if-len-from.false, c.len-2.ensures, c.from.ensures, cap, f.waiting.ok.0) in
    let open' : (n : ℕ) → refusal f.half.setup now (event.Submit c.args.host n c.args.request) ≡ None = λ channel. submit_open f.half.setup now c.args.host channel c.args.request known fine (omega arith) room in
    let serial = c.in-Some-next_serial.serial in
    let numbered = c.in-Some-next_serial.ensures.0 ∙ count in
    let e = c.with_accepted-self-inside.ensures in
    let same = submitted_is now c.args.host serial c.args.request c.with_accepted-self-inside.result.accepted c.push_back_reserved.new.self.items c.with_accepted-self-inside.result.posted numbered e.0 c.push_back_reserved.ensures.items e.2 in
    let after : ChannelState = record now { sent = c.with_accepted-self-inside.result.accepted; waiting = c.push_back_reserved.new.self.items; collected = c.with_accepted-self-inside.result.posted } in
    let step : (n : ℕ) → Step f.half.setup now (event.Submit c.args.host n c.args.request) (outcome.Submitted serial) after = λ channel. step_does f.half.setup now (event.Submit c.args.host channel c.args.request) (outcome.Submitted serial) after (open' channel) (ap outcome.Submitted numbered, same) in
    let reached = any_reaches f.half.setup now (event.Submit c.args.host 0 c.args.request) (outcome.Submitted serial) after i.reached (step 0) in
    let queue = c.index_mut.result.now in
    let there' = queue_there f.hosts.items c.from-at.result c.from-at.result queue within c.index_mut.ensures.value refl in
    queues_sent f.half.setup _ _ _ _ f.hosts.items _ _ now after i reached i.lanes_are i.settled c.push_back_reserved.ensures.capacity c.from-at.result queue (record { sent = queue.sent + 1; completions = queue.completions }) there' refl
    (record { host = c.args.host; serial = serial; request = c.args.request }) (sym c.from-at.ensures) e.0 refl e.2 refl refl

pub returns-clause-step : goal.returns-clause-step
returns-clause-step g c channel =
    let i = c.self.invariant in
    let f = c.self.inside in
    let now : ChannelState = record { half = f.half.state; chip = g.C.Chip.state f.chip; sent = f.traffic.accepted; waiting = f.waiting.items; collected = f.traffic.posted } in
    let within : c.from-at.result < length f.hosts.items = omega (arith, c.if-at-len.false, c.len.ensures, f.hosts.ok.0) in
    let known : c.args.host < f.half.setup.hosts = omega (arith, within, c.from-at.ensures, i.count) in
    let there = queue_there f.hosts.items c.from-at.result c.args.host c.index.result.now within c.index.ensures c.from-at.ensures in
    let count = (i.each c.args.host c.index.result.now there).sent in
    let fine : fault_of f.half.setup.geometry c.args.request ≡ None = sym (c.fault_of.ensures ∙ ap (λ (s : Setup). fault_of s.geometry c.args.request) c.setup-setup.ensures) ∙ c.in_default.is in
    let low = c.in-Some-next_serial.ensures.1 in
    let cap = ap (λ (s : Setup). s.submit_cap) c.setup-setup.ensures in
    let room : length f.waiting.items < f.half.setup.submit_cap = omega (arith, c.if-len-from.false, c.len-2.ensures, c.from.ensures, cap, f.waiting.ok.0) in
    let open' : (n : ℕ) → refusal f.half.setup now (event.Submit c.args.host n c.args.request) ≡ None = λ channel. submit_open f.half.setup now c.args.host channel c.args.request known fine (omega arith) room in
    let serial = c.in-Some-next_serial.serial in
    let numbered = c.in-Some-next_serial.ensures.0 ∙ count in
    let e = c.with_accepted-self-inside.ensures in
    let same = submitted_is now c.args.host serial c.args.request c.with_accepted-self-inside.result.accepted c.push_back_reserved.new.self.items c.with_accepted-self-inside.result.posted numbered e.0 c.push_back_reserved.ensures.items e.2 in
    let after : ChannelState = record now { sent = c.with_accepted-self-inside.result.accepted; waiting = c.push_back_reserved.new.self.items; collected = c.with_accepted-self-inside.result.posted } in
    let step : (n : ℕ) → Step f.half.setup now (event.Submit c.args.host n c.args.request) (outcome.Submitted serial) after = λ channel. step_does f.half.setup now (event.Submit c.args.host channel c.args.request) (outcome.Submitted serial) after (open' channel) (ap outcome.Submitted numbered, same) in
    outside g.C.Chip.state _ _ (event.Submit c.args.host channel c.args.request) (outcome.Submitted serial) after c.self.view_is (step channel)
