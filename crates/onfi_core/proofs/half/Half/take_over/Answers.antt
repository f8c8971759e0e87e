use Rattle.std.proofs.Common.{◌≡◌, ◌++◌, ◌+◌, ◌-◌, ℕ, List, length, None, sym, ap, ◌∙◌, subst, length-append, arith}
use Rattle.onfi_request.specs.declared.want.Want.{Want}
use Rattle.onfi_schedule.specs.Schedule.{Schedule}
use Rattle.onfi_flight.specs.Flight.{Flight}
use Rattle.onfi_core.specs.State.{Way}
use Rattle.onfi_core.specs.Steps.{Plans, taken_next}
use Rattle.onfi_core.specs.View.{HalfView, planning_of, schedule_in}
use Rattle.onfi_core.proofs.Plan.{few_taken}
use Rattle.onfi_core.proofs.Window.{fields_planned, places_fit}
use Rattle.onfi_core.proofs.half.Half.take_over.Goals as goal

-- that many wants more are taken
more_wants : (all wants more : List Want) (a b : ℕ) → all ≡ wants ++ more → a ≡ length all → b ≡ length wants → a - b ≡ length more
more_wants all wants more a b is ea eb = let n = ap length is in omega (arith, n, ea, eb, length-append wants more)

pub flight-requires : goal.flight-requires
flight-requires c = subst (λ (x : HalfView). x.state.books ≡ None) (sym c.self.view_is) c.requires.in_order

pub overflow_add-self : goal.overflow_add-self
overflow_add-self c =
    let i = c.self.invariant in
    let wants = subst (λ (x : HalfView). c.args.wants.items ≡ x.state.now.wants ++ taken_next x.setup x.state) (sym c.self.view_is) c.requires.wants in
    let more = more_wants _ _ _ _ _ wants c.len.ensures.value (ap length (c.wants.ensures.value ∙ ap (λ (f : Flight). f.now.wants) c.flight.ensures)) in
    omega (arith, more, few_taken c.self.inside.setup _ i.sound, places_fit _ i.numbered)

pub replan-requires : goal.replan-requires
replan-requires c = subst (λ (x : HalfView). x.state.books ≡ None) (sym c.self.view_is) c.requires.in_order

pub invariant_of-self : goal.invariant_of-self
invariant_of-self c =
    let v = sym c.self.view_is in
    let none = subst (λ (x : HalfView). x.state.books ≡ None) v c.requires.in_order in
    let plans = subst (λ (x : HalfView). Plans x.setup x.state (planning_of c.args.next.batch)) v c.requires.plans in
    let wants = subst (λ (x : HalfView). c.args.wants.items ≡ x.state.now.wants ++ taken_next x.setup x.state) v c.requires.wants in
    let way = c.replan.ensures ∙ ap (λ (s : Schedule). let w : Way = record { now = record c.self.inside.way.now { wants = c.args.wants.items }; left = s; books = None } in w) c.requires.left
    ∙ ap (λ (ws : List Want). let w : Way = record { now = record c.self.inside.way.now { wants = ws }; left = schedule_in c.args.next.batch.plan; books = None } in w) wants in
    let more = more_wants _ _ _ _ _ wants c.len.ensures.value (ap length (c.wants.ensures.value ∙ ap (λ (f : Flight). f.now.wants) c.flight.ensures)) in
    fields_planned _ _ _ _ _ _ _ _ (planning_of c.args.next.batch) _ _ c.self.invariant none plans way (ap (λ n. c.self.inside.planned + n) more)
