use Rattle.std.proofs.Common.{◌≡◌, sym, subst, None}
use Rattle.onfi_chip.specs.Chip.{Chip}
use Rattle.onfi_core.specs.Refusals.{phase_outcome}
use Rattle.onfi_core.specs.State.{quiet}
use Rattle.onfi_core.specs.Steps.{IsPromised, bus_refusal}
use Rattle.onfi_core.proofs.Reaching.{events_reach}
use Rattle.onfi_core.proofs.Running.{going_on}
use Rattle.onfi_seq.specs.Driver.{DriverFields, IsAt, RanTo}
use Rattle.onfi_seq.specs.declared.ran.Ran.{Ran}
use Rattle.onfi_seq.proofs.Driving.{driven_ran, is_at, outside, phase_step, ran_to, same_quiet, within}
use Rattle.onfi_seq.proofs.driver.Driver.run_due.Goals as goal

pub run_due-came-requires-clause-sound : goal.run_due-came-requires-clause-sound
run_due-came-requires-clause-sound g c = (events_reach (IsPromised g.P.Planner.exact g.P.Planner.certifies) c.self.inside.half.setup _ c.self.invariant.reached).0.half.sound

pub run_due-came-requires-clause-agree : goal.run_due-came-requires-clause-agree
run_due-came-requires-clause-agree g c =
    let f = c.self.inside in
    let open' = within (λ (v : DriverFields). bus_refusal v.half ≡ None) _ _ c.self.view_is c.requires.open in
    (events_reach (IsPromised g.P.Planner.exact g.P.Planner.certifies) f.half.setup _ c.self.invariant.reached).0.chip (going_on f.half.state open')

pub run_due-came-requires-clause-lanes : goal.run_due-came-requires-clause-lanes
run_due-came-requires-clause-lanes g c =
    let f = c.self.inside in
    let open' = within (λ (v : DriverFields). bus_refusal v.half ≡ None) _ _ c.self.view_is c.requires.open in
    c.self.invariant.lanes_are (going_on f.half.state open')

pub invariant_of-self : goal.invariant_of-self
invariant_of-self g c =
    let f = c.self.inside in
    let e = c.run_due-came.ensures in
    driven_ran (IsPromised g.P.Planner.exact g.P.Planner.certifies) f.half c.run_due-came.new.half (g.C.Chip.state f.chip) (g.C.Chip.state c.run_due-came.new.chip) f.lanes c.run_due-came.new.lanes
    (phase_outcome c.run_due-came.result) e.kept e.step e.lanes c.self.invariant

pub returns-clause-ran : goal.returns-clause-ran
returns-clause-ran g c =
    let f = c.self.inside in
    let e = c.run_due-came.ensures in
    let new = c.run_due-came.new.half in
    let chip = g.C.Chip.state f.chip in
    let chip' = g.C.Chip.state c.run_due-came.new.chip in
    let to = ran_to f.half.setup (quiet f.half.state chip) (quiet new.state chip') c.run_due-came.result (λ channel. phase_step f.half new chip chip' channel (phase_outcome c.run_due-came.result) e.kept e.step)
    (same_quiet f.half new chip chip' c.run_due-came.result e.kept e.memory) in
    let told = subst (λ (x : Ran). RanTo f.half.setup (quiet f.half.state chip) x (quiet new.state chip')) (sym c.judge_run.ensures) to in
    outside g.C.Chip.state (λ (v : DriverFields) (old : Chip). RanTo v.setup (quiet v.half old) c.judge_run.result (quiet new.state chip')) _ _ c.self.view_is told

pub returns-clause-start : goal.returns-clause-start
returns-clause-start g c = subst (IsAt c.args.due.start) (sym c.judge_run.ensures) (is_at c.args.due.start c.run_due-came.result c.run_due-came.ensures.start)
