use Rattle.std.proofs.Common.{refl, sym, ◌∙◌, subst}
use Rattle.onfi_core.specs.Refusals.{phase_outcome}
use Rattle.onfi_core.specs.State.{ChannelState}
use Rattle.onfi_core.specs.Steps.{IsAny, Step}
use Rattle.onfi_core.specs.declared.event.Event.TheVariants as event
use Rattle.onfi_core.specs.declared.outcome.Outcome.{Outcome}
use Rattle.onfi_core.proofs.Queueing.{open_within, outside, queues_same}
use Rattle.onfi_core.proofs.Reaching.{any_reaches, events_reach}
use Rattle.onfi_core.proofs.Running.{going_on}
use Rattle.onfi_core.proofs.channel.Channel.run.Goals as goal

pub run_due-ran-requires-clause-sound : goal.run_due-ran-requires-clause-sound
run_due-ran-requires-clause-sound g c =
    let i = c.self.invariant in
    (events_reach IsAny c.self.inside.half.setup _ i.reached).0.half.sound

pub run_due-ran-requires-clause-agree : goal.run_due-ran-requires-clause-agree
run_due-ran-requires-clause-agree g c =
    let i = c.self.invariant in
    let f = c.self.inside in
    (events_reach IsAny f.half.setup _ i.reached).0.chip (going_on f.half.state (open_within g.C.Chip.state _ _ c.self.view_is c.requires.open))

pub run_due-ran-requires-clause-lanes : goal.run_due-ran-requires-clause-lanes
run_due-ran-requires-clause-lanes g c =
    let i = c.self.invariant in
    let f = c.self.inside in
    i.lanes_are (going_on f.half.state (open_within g.C.Chip.state _ _ c.self.view_is c.requires.open))

pub invariant_of-self : goal.invariant_of-self
invariant_of-self g c =
    let i = c.self.invariant in
    let f = c.self.inside in
    let now : ChannelState = record { half = f.half.state; chip = g.C.Chip.state f.chip; sent = f.traffic.accepted; waiting = f.waiting.items; collected = f.traffic.posted } in
    let e = c.run_due-ran.ensures in
    let new = c.run_due-ran.new.half in
    let after : ChannelState = record now { half = new.state; chip = g.C.Chip.state c.run_due-ran.new.chip } in
    let reached = any_reaches f.half.setup now (event.Bus 0) (phase_outcome c.run_due-ran.result) after i.reached (e.step now 0) in
    rw e.kept.setup (queues_same f.half.setup _ new.lent _ _ f.hosts.items _ _ now after i reached e.lanes refl e.kept.posted refl (e.kept.lent ∙ i.settled) refl)

pub returns-clause-step : goal.returns-clause-step
returns-clause-step g c channel =
    let f = c.self.inside in
    let now : ChannelState = record { half = f.half.state; chip = g.C.Chip.state f.chip; sent = f.traffic.accepted; waiting = f.waiting.items; collected = f.traffic.posted } in
    let after : ChannelState = record now { half = c.run_due-ran.new.half.state; chip = g.C.Chip.state c.run_due-ran.new.chip } in
    let P : Outcome → Type 0 = λ o. Step f.half.setup now (event.Bus channel) o after in
    outside g.C.Chip.state _ _ (event.Bus channel) c.phase_outcome.result after c.self.view_is (subst P (sym c.phase_outcome.ensures) (c.run_due-ran.ensures.step now channel))
