use Rattle.std.proofs.Common.{◌≡◌, ◌≢◌, ◌<◌, ◌≤◌, ◌^◌, ◌++◌, Bool, None, false, refl, sym, ap, ◌∙◌, subst}
use Rattle.onfi_problem.specs.Problem.{HasLengths, IsProblem, Problem}
use Rattle.onfi_problem.specs.Kept.{problem_of}
use Rattle.onfi_problem.specs.Left.{horizon}
use Rattle.onfi_check.specs.Nodes.{HasMoreNodes}
use Rattle.onfi_core.specs.declared.planning.PlanStop.{PlanStop}
use Rattle.onfi_core.specs.declared.planning.PlanStop.TheVariants.{Clock, Over, Memory}
use Rattle.onfi_core.specs.Kept.{IsSound}
use Rattle.onfi_core.specs.Stated.{StatesParts}
use Rattle.onfi_core.specs.Steps.{Plans, next_problem, nothing_to_plan, taken_next}
use Rattle.onfi_core.specs.View.{HalfView, PlanRefused, StopsBecause, planning_of, refusal_of}
use Rattle.onfi_flight.specs.Flight.{Flight}
use Rattle.onfi_core.proofs.Plan.{has_lengths, next_is_problem, parts_are, plans_where}
use Rattle.onfi_core.proofs.Next.{plan_goes_on, plan_stops}
use Rattle.onfi_core.proofs.Running.{clock_stops}
use Rattle.onfi_core.proofs.half.Half.plan_by.Given.{Over as AtTypes}
use Rattle.onfi_core.proofs.half.Half.plan_by.Goals.{After-as_slice}
use Rattle.onfi_core.proofs.half.Half.plan_by.Goals as goal

-- the planning goes on: the channel isn't stopped, and something is to be planned
record GoesOn (v : HalfView) : Type 0 where
  going : v.state.stopped ≡ None
  some : nothing_to_plan v.setup v.state ≡ false

goes_on : (inside v : HalfView) (nothing : Bool) → inside ≡ v → inside.state.stopped ≡ None → nothing ≡ false → nothing ≡ nothing_to_plan v.setup v.state → GoesOn v
goes_on inside v nothing e going some is = record { going = sym (ap (λ (x : HalfView). x.state.stopped) e) ∙ going; some = sym is ∙ some }

abbrev ends_in_time : Problem → Type 0
ends_in_time p = horizon p < 2 ^ 62

-- there is no plan, and the channel goes on
stays : (v : HalfView) (p : Problem) (stop : PlanStop) → GoesOn v → p ≡ next_problem v.setup v.state
    → StopsBecause p v.setup.limit stop → stop ≢ Clock → PlanRefused v.setup v.state (refusal_of stop) v.state
stays v p Clock on e why n = absurd (n refl)
stays v p (Over opened) on e why n =
    (plan_goes_on v.setup v.state on.going on.some (subst ends_in_time e why.0), why.1, subst (λ (q : Problem). HasMoreNodes q v.setup.limit) e why.2, refl)
stays v p Memory on e why n = (plan_goes_on v.setup v.state on.going on.some (subst ends_in_time e why), refl)

-- the problem of these parts is what the planning takes
problem_is : (g : AtTypes) (c : After-as_slice g)
    → problem_of c.self.inside.setup.timing c.self.inside.setup.rules c.bus_free.result c.luns.result.now c.as_slice.result.now
    ≡ next_problem c.args.self.now.setup c.args.self.now.state
problem_is g c =
    let wants = c.as_slice.ensures.value ∙ c.next_wants-wants.ensures in
    let v = sym c.self.view_is in
    let here = subst (λ (x : HalfView). c.as_slice.result.now ≡ x.state.now.wants ++ taken_next x.setup x.state) v wants in
    parts_are c.self.inside.setup _ c.self.invariant.sound c.bus_free.result c.luns.result.now c.as_slice.result.now c.bus_free.ensures (c.luns.ensures.value ∙ ap (λ (f : Flight). f.now.luns) c.flight.ensures) here
    ∙ ap (λ (x : HalfView). next_problem x.setup x.state) c.self.view_is

-- it goes by plans
by_plans : (inside v : HalfView) (nothing : Bool) → inside ≡ v → IsSound inside.setup inside.state → nothing ≡ false → nothing ≡ nothing_to_plan v.setup v.state → v.state.books ≡ None
by_plans inside v nothing e sound some is = plans_where v.setup v.state (subst (λ (x : HalfView). IsSound x.setup x.state) e sound) (sym is ∙ some)

pub next_wants-wants-requires : goal.next_wants-wants-requires
next_wants-wants-requires g c = by_plans _ c.args.self.now c.nothing_to_plan.result c.self.view_is c.self.invariant.sound c.if-nothing_to_plan.false c.nothing_to_plan.ensures

pub flight-requires : goal.flight-requires
flight-requires g c = subst (λ (x : HalfView). x.state.books ≡ None) (sym c.self.view_is) (by_plans _ c.args.self.now c.nothing_to_plan.result c.self.view_is c.self.invariant.sound c.if-nothing_to_plan.false c.nothing_to_plan.ensures)

pub take_over-requires-clause-in_order : goal.take_over-requires-clause-in_order
take_over-requires-clause-in_order g c = by_plans _ c.args.self.now c.nothing_to_plan.result c.self.view_is c.self.invariant.sound c.if-nothing_to_plan.false c.nothing_to_plan.ensures

pub plan_wants-next-requires-clause-problem : goal.plan_wants-next-requires-clause-problem
plan_wants-next-requires-clause-problem g c =
    let v = c.args.self.now in
    let sound = subst (λ (x : HalfView). IsSound x.setup x.state) c.self.view_is c.self.invariant.sound in
    subst IsProblem (sym (problem_is g c)) (next_is_problem v.setup v.state sound)

pub plan_wants-next-requires-clause-lengths : goal.plan_wants-next-requires-clause-lengths
plan_wants-next-requires-clause-lengths g c =
    let v = c.args.self.now in
    let sound = subst (λ (x : HalfView). IsSound x.setup x.state) c.self.view_is c.self.invariant.sound in
    let stated = subst (λ (x : HalfView). StatesParts x.setup.geometry x.setup.timing) c.self.view_is c.states_lengths.ensures in
    subst HasLengths (sym (problem_is g c)) (has_lengths v.setup v.state sound stated)

pub take_over-requires-clause-plans : goal.take_over-requires-clause-plans
take_over-requires-clause-plans g c =
    let e = problem_is g (goal.at.take_over-requires-clause-plans g c).After-as_slice in
    let o = c.in-Ok.ensures in
    record { problem = o.problem ∙ e; planned = o.planned }

pub returns-in-Ok-clause-planned : goal.returns-in-Ok-clause-planned
returns-in-Ok-clause-planned g c =
    let v = c.args.self.now in
    let e = problem_is g (goal.at.returns-in-Ok-clause-planned g c).After-as_slice in
    let o = c.in-Ok.ensures in
    let plan = planning_of c.in-Ok.next.batch in
    let plans : Plans v.setup v.state plan = record { problem = o.problem ∙ e; planned = o.planned } in
    let going : c.self.inside.stopped ≡ None = cc in
    let on = goes_on _ v c.nothing_to_plan.result c.self.view_is going c.if-nothing_to_plan.false c.nothing_to_plan.ensures in
    (plan_goes_on v.setup v.state on.going on.some (subst ends_in_time e o.in_time), plan, c.take_over.ensures.finish, plans, c.take_over.ensures.planned)

pub returns-in-Clock-clause-refused : goal.returns-in-Clock-clause-refused
returns-in-Clock-clause-refused g c =
    let v = c.args.self.now in
    let e = problem_is g (goal.at.returns-in-Clock-clause-refused g c).After-as_slice in
    let going : c.self.inside.stopped ≡ None = cc in
    let on = goes_on _ v c.nothing_to_plan.result c.self.view_is going c.if-nothing_to_plan.false c.nothing_to_plan.ensures in
    let p = problem_of c.self.inside.setup.timing c.self.inside.setup.rules c.bus_free.result c.luns.result.now c.as_slice.result.now in
    let high : 2 ^ 62 ≤ horizon p = subst (StopsBecause p c.self.inside.setup.limit) c.in-Clock.is c.in-Err.ensures.stop in
    clock_stops _ _ _ c.self.view_is (plan_stops v.setup v.state on.going on.some (subst (λ (q : Problem). 2 ^ 62 ≤ horizon q) e high))

pub returns-in_default-stop : goal.returns-in_default-stop
returns-in_default-stop g c =
    let v = c.args.self.now in
    let e = problem_is g (goal.at.returns-in_default-stop g c).After-as_slice in
    let going : c.self.inside.stopped ≡ None = cc in
    let on = goes_on _ v c.nothing_to_plan.result c.self.view_is going c.if-nothing_to_plan.false c.nothing_to_plan.ensures in
    let p = problem_of c.self.inside.setup.timing c.self.inside.setup.rules c.bus_free.result c.luns.result.now c.as_slice.result.now in
    let why = subst (λ (x : HalfView). StopsBecause p x.setup.limit c.in-Err.stop) c.self.view_is c.in-Err.ensures.stop in
    let refused = stays v p c.in-Err.stop on e why c.in_default-stop.not-Clock in
    record {
      planned = tt;
      promised = tt;
      refused = (subst (λ r. PlanRefused v.setup v.state r v.state) (sym c.refusal_of.ensures) refused, refl);
      settled = c.requires.settled;
      setup = refl;
    }
