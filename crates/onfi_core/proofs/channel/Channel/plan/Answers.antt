use Rattle.std.proofs.Common.{sym, refl, subst}
use Rattle.std.specs.Prelude.{IfSome}
use Rattle.onfi_core.specs.Queues.{ChannelView}
use Rattle.onfi_core.specs.Refusals.{planned_outcome}
use Rattle.onfi_core.specs.State.{ChannelState}
use Rattle.onfi_core.specs.declared.event.Event.TheVariants as event
use Rattle.onfi_core.specs.declared.outcome.Outcome.{Outcome}
use Rattle.onfi_core.specs.Steps.{IsPromised, Step}
use Rattle.onfi_core.proofs.Queueing.{outside, queues_same}
use Rattle.onfi_core.proofs.Reaching.{any_reaches}
use Rattle.onfi_core.proofs.Promised.{planned_last}
use Rattle.onfi_core.proofs.Running.{after_planning, going_before, nothing_posted, refused_alone}
use Rattle.onfi_core.proofs.channel.Channel.plan.Goals as goal

pub invariant_of-self : goal.invariant_of-self
invariant_of-self g c =
    let i = c.self.invariant in
    let f = c.self.inside in
    let now : ChannelState = record { half = f.half.state; chip = g.C.Chip.state f.chip; sent = f.traffic.accepted; waiting = f.waiting.items; collected = f.traffic.posted } in
    let e = c.plan_by-planned.ensures in
    let after : ChannelState = record now { half = c.plan_by-planned.new.self.state } in
    let refused = refused_alone f.half.setup now.half c.plan_by-planned.result c.plan_by-planned.new.self f.half e.refused in
    let step = after_planning f.half.setup now 0 f.half c.plan_by-planned.result c.plan_by-planned.new.self e.planned refused in
    let posted = nothing_posted f.half.setup now f.half c.plan_by-planned.result c.plan_by-planned.new.self e.planned refused in
    let reached = any_reaches f.half.setup now (event.Plan 0) (planned_outcome c.plan_by-planned.result) after i.reached step in
    let q = queues_same f.half.setup _ c.plan_by-planned.new.self.lent _ _ f.hosts.items _ _ now after i reached (λ going. i.lanes_are (going_before f.half c.plan_by-planned.new.self c.plan_by-planned.result e.planned e.refused going)) refl posted refl e.settled refl in
    rw e.setup q

pub returns-clause-step : goal.returns-clause-step
returns-clause-step g c channel =
    let i = c.self.invariant in
    let f = c.self.inside in
    let now : ChannelState = record { half = f.half.state; chip = g.C.Chip.state f.chip; sent = f.traffic.accepted; waiting = f.waiting.items; collected = f.traffic.posted } in
    let e = c.plan_by-planned.ensures in
    let after : ChannelState = record now { half = c.plan_by-planned.new.self.state } in
    let refused = refused_alone f.half.setup now.half c.plan_by-planned.result c.plan_by-planned.new.self f.half e.refused in
    let step = after_planning f.half.setup now channel f.half c.plan_by-planned.result c.plan_by-planned.new.self e.planned refused in
    let P : Outcome → Type 0 = λ o. Step f.half.setup now (event.Plan channel) o after in
    outside g.C.Chip.state _ _ (event.Plan channel) c.planned_outcome.result after c.self.view_is (subst P (sym c.planned_outcome.ensures) step)

pub returns-clause-promised : goal.returns-clause-promised
returns-clause-promised g c old =
    let such = IsPromised g.P.Planner.exact g.P.Planner.certifies in
    let f = c.self.inside in
    let e = c.plan_by-planned.ensures in
    let refused = refused_alone f.half.setup f.half.state c.plan_by-planned.result c.plan_by-planned.new.self f.half e.refused in
    let before = subst (λ (v : ChannelView g.row.C.Denot). IfSome v.0.half.last such) (sym c.self.view_is) old in
    planned_last such f.half.setup f.half.state c.plan_by-planned.result c.plan_by-planned.new.self.state e.promised refused before
