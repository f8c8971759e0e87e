use Rattle.onfi_chip.specs.Chip.{Chip}
use Rattle.onfi_core.specs.declared.event.Event.TheVariants as event
use Rattle.onfi_core.specs.Refusals.{planned_outcome}
use Rattle.onfi_core.specs.State.{quiet}
use Rattle.onfi_core.specs.Steps.{IsPromised, Step}
use Rattle.onfi_seq.specs.Driver.{DriverFields}
use Rattle.onfi_seq.proofs.Driving.{driven_planned, outside, planning_step}
use Rattle.onfi_seq.proofs.driver.Driver.plan.Goals as goal

pub invariant_of-self : goal.invariant_of-self
invariant_of-self g c =
    let f = c.self.inside in
    let e = c.plan_by.ensures in
    driven_planned (IsPromised g.P.Planner.exact g.P.Planner.certifies) f.half c.plan_by.new.self (g.C.Chip.state f.chip) f.lanes c.plan_by.result c.self.invariant e.planned e.promised e.refused e.settled e.setup

pub returns-clause-step : goal.returns-clause-step
returns-clause-step g c channel =
    let f = c.self.inside in
    let e = c.plan_by.ensures in
    let step = planning_step f.half c.plan_by.new.self (g.C.Chip.state f.chip) channel c.plan_by.result e.planned e.refused in
    outside g.C.Chip.state (λ (v : DriverFields) (chip : Chip). Step v.setup (quiet v.half chip) (event.Plan channel) (planned_outcome c.plan_by.result) (quiet c.plan_by.new.self.state (g.C.Chip.state f.chip))) _ _ c.self.view_is step
