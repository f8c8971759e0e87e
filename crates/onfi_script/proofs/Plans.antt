-- Plans that are found by each way, and those that are made better.
use Rattle.std.proofs.Common.{◌≡◌, ◌+◌, ◌<◌, ◌≤◌, ℕ, true, false, refl, sym, ap, ◌∙◌, subst, arith}
use Rattle.std.specs.Prelude.{Result, Ok, Err, IfOk}
use Rattle.onfi_check.specs.Nodes.{IsOpen}
use Rattle.onfi_check.specs.Tree.{AcceptsTokens}
use Rattle.onfi_known_check.specs.Laws.{NoneBefore}
use Rattle.onfi_known_plan.specs.Text.{HasNodesIn}
use Rattle.onfi_plan.specs.Certificate.{IsPlain, IsRemembering, ShowsBelow}
use Rattle.onfi_plan.specs.declared.plan.Certificate.TheVariants.{Tokens}
use Rattle.onfi_plan.specs.declared.plan.Plan.{Plan as OnePlan}
use Rattle.onfi_planner.specs.Planning.{AreRising}
use Rattle.onfi_planner.specs.declared.planned.Planned.{Planned}
use Rattle.onfi_planners.specs.Choice.{IsMadeFrom, IsPlannedBy, IsPlannedWithin}
use Rattle.onfi_planners.specs.declared.by.By.{By}
use Rattle.onfi_planners.specs.declared.by.By.TheVariants as by
use Rattle.onfi_planners.specs.declared.weights.Weights.{Weights}
use Rattle.onfi_problem.specs.Position.{Position}
use Rattle.onfi_problem.specs.Problem.{Problem}
use Rattle.onfi_schedule.specs.Schedule.{Schedule, Legal, Optimal, finish}
use Rattle.onfi_script.specs.Answer.{IsBy, IsEarly, IsFound, IsPlan}
use Rattle.onfi_script.specs.declared.command.PlanOptions.{PlanOptions}

pub by_way : (way : By) (limit : ℕ) (x : Position) (plan : OnePlan) → IsPlannedBy way x limit plan → IsBy way limit x plan
by_way by.Plain limit x plan is = (is.optimal, is.tokens)
by_way by.Within limit x plan is = is
by_way by.Rule limit x plan is = is

-- a legal schedule that ends when nothing ends before is optimal
optimal_at : (p : Problem) (s : Schedule) (below ends : ℕ) → Legal p s → finish p s ≡ ends → NoneBefore p below → below ≡ ends → Optimal p s
optimal_at p s below ends legal is none e = record { legal = legal; least = λ other l. subst (λ t. t ≤ finish p other) (e ∙ sym is) (none other l) }

-- what several workers plan
pub split_plan : (limit : ℕ) (x : Position) (plan : OnePlan) (planned : Planned) → plan.schedule ≡ planned.schedule → plan.finish ≡ planned.finish → plan.below ≡ planned.finish → plan.certificate ≡ Tokens planned.cert
    → Optimal x.problem planned.schedule → finish x.problem planned.schedule ≡ planned.finish → AreRising planned.schedule.groups → AcceptsTokens planned.cert.items x.problem planned.finish → IsFound by.Plain limit x plan
split_plan limit x plan planned schedule ends below cert optimal is rising accepted = record {
  legal = subst (Legal x.problem) (sym schedule) optimal.legal;
  ends = ap (finish x.problem) schedule ∙ is ∙ sym ends;
  rising = subst (λ (s : Schedule). AreRising s.groups) (sym schedule) rising;
  shown = subst (λ c. ShowsBelow c x.all x.problem plan.below) (sym cert) (subst (AcceptsTokens planned.cert.items x.problem) (sym below) accepted);
  none_before = λ other legal. subst (λ e. e ≤ finish x.problem other) (is ∙ sym below) (optimal.least other legal);
  is_by = (below ∙ sym ends, (planned.cert, cert));
}

-- a plan as it was found
pub as_found : (options : PlanOptions) (weights : Weights) (x : Position) (plan : OnePlan) → options.early ≡ false → IsFound options.by options.limit x plan → IsPlan options weights x plan
as_found options weights x plan late found = record {
  legal = found.legal;
  ends = found.ends;
  rising = found.rising;
  shown = found.shown;
  none_before = found.none_before;
  optimal = λ e. let is = subst (λ b. IsBy b options.limit x plan) e found.is_by in (optimal_at x.problem plan.schedule plan.below plan.finish found.legal found.ends found.none_before is.0, is.0, is.1);
  near = λ e. subst (λ b. IsBy b options.limit x plan) e found.is_by;
  first = plan;
  found = found;
  early = subst (λ b. IsEarly b weights x plan plan) (sym late) refl;
}

-- a plan within a limit stays one where it is made better
near_still : (limit : ℕ) (weights : Weights) (x : Position) (first plan : OnePlan) → IsMadeFrom weights x first plan → IsPlannedWithin x limit first → IsPlannedWithin x limit plan
near_still limit weights x first plan made is = record {
  text = subst IsRemembering (sym made.certificate) is.text;
  by_rule = λ steps f run. sooner f (is.by_rule steps f run);
  by_first = (is.by_first.0, is.by_first.1, sooner is.by_first.0 is.by_first.2);
  short = λ late. is.short (later late);
  greatest = λ late. subst (λ b. IsOpen (b + 1) x.problem) (sym made.below) (is.greatest (later late));
  counted = λ fewer. subst (λ c. HasNodesIn x.problem c plan.opened) (sym made.certificate) (subst (HasNodesIn x.problem first.certificate) (sym made.opened) (is.counted (subst (λ n. n < limit) made.opened fewer)));
}
  where
    sooner : (f : ℕ) → first.finish ≤ f → plan.finish ≤ f
    sooner f no_later = let t = made.in_time in omega (arith, t, no_later)

    later : plan.below < plan.finish → first.below < first.finish
    later late = let b = made.below in let t = made.in_time in omega (arith, b, t, late)

-- a plan that was made better
pub better_plan : (options : PlanOptions) (weights : Weights) (x : Position) (first plan : OnePlan) → options.early ≡ true → IsFound options.by options.limit x first
    → Legal x.problem plan.schedule → finish x.problem plan.schedule ≡ plan.finish → AreRising plan.schedule.groups → IsMadeFrom weights x first plan → IsPlan options weights x plan
better_plan options weights x first plan early found legal is rising made = record {
  legal = legal;
  ends = is;
  rising = rising;
  shown = subst (λ c. ShowsBelow c x.all x.problem plan.below) (sym made.certificate) (subst (ShowsBelow first.certificate x.all x.problem) (sym made.below) found.shown);
  none_before = none;
  optimal = λ e. let way = subst (λ b. IsBy b options.limit x first) e found.is_by in let same = ends way.0 in (optimal_at x.problem plan.schedule plan.below plan.finish legal is none same, same, subst IsPlain (sym made.certificate) way.1);
  near = λ e. near_still options.limit weights x first plan made (subst (λ b. IsBy b options.limit x first) e found.is_by);
  first = first;
  found = found;
  early = subst (λ b. IsEarly b weights x first plan) (sym early) made;
}
  where
    none : NoneBefore x.problem plan.below
    none = subst (NoneBefore x.problem) (sym made.below) found.none_before

    ends : first.below ≡ first.finish → plan.below ≡ plan.finish
    ends same =
        let least : plan.below ≤ plan.finish = subst (λ e. plan.below ≤ e) is (none plan.schedule legal) in
        let b = made.below in
        let t = made.in_time in
        omega (arith, same, b, t, least)

pub better_plans : {E : Type 0} (options : PlanOptions) (weights : Weights) (x : Position) (first : OnePlan) (r : Result OnePlan E) → options.early ≡ true → IsFound options.by options.limit x first
    → IfOk r (λ plan. Legal x.problem plan.schedule) → IfOk r (λ plan. finish x.problem plan.schedule ≡ plan.finish) → IfOk r (λ plan. AreRising plan.schedule.groups) → IfOk r (IsMadeFrom weights x first) → IfOk r (IsPlan options weights x)
better_plans options weights x first (Ok plan) early found legal is rising made = better_plan options weights x first plan early found legal is rising made
better_plans options weights x first (Err fault) early found legal is rising made = tt
