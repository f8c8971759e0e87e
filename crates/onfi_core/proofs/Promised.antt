-- The last plan is as its planner promises.
use Rattle.std.proofs.Common.{◌≡◌, ℕ, ◌≤◌, inl, inr, Bool, Some, None, refl, sym, ap, ◌∙◌, subst}
use Rattle.std.specs.Prelude.{Option, Result, true, Ok, Err, IfOk, IfErr, IfNone, IfSome, IsTrue, MatchOption}
use Rattle.onfi_problem.specs.Position.{Position}
use Rattle.onfi_schedule.specs.Schedule.{Legal, finish}
use Rattle.onfi_check.specs.Tree.{AcceptsTokens}
use Rattle.onfi_plan.specs.Certificate.{IsPlain, ShowsBelow}
use Rattle.onfi_plan.specs.declared.plan.Certificate.{Certificate}
use Rattle.onfi_plan.specs.declared.plan.Plan.{Plan as APlan}
use Rattle.onfi_known_check.specs.Laws.{NoneBefore}
use Rattle.onfi_core.specs.declared.event.Event.{Event}
use Rattle.onfi_core.specs.declared.event.Event.TheVariants.{Submit, Accept, Plan, Bus, Wait, Ready, Post, Collect}
use Rattle.onfi_core.specs.declared.half.PlanRefusal.{PlanRefusal}
use Rattle.onfi_core.specs.declared.half.PlanRefusal.TheVariants as refused
use Rattle.onfi_core.specs.declared.outcome.Cause.{Cause}
use Rattle.onfi_core.specs.declared.outcome.Outcome.{Outcome}
use Rattle.onfi_core.specs.declared.outcome.Outcome.TheVariants.{Stopped}
use Rattle.onfi_core.specs.declared.setup.Setup.{Setup}
use Rattle.onfi_core.specs.State.{HalfState, ChannelState, Planning}
use Rattle.onfi_core.specs.Steps.{Does, FinishIsBest, IsAny, IsPlainPlan, IsPlainlyPlanned, IsPlanned, IsPromised, PlainIsPlain, PlansSuch, Step, StepBy, after_refusal, refusal}
use Rattle.onfi_core.specs.View.{HalfView, PlannedAs, PlanRefused, planning_with}

-- What exact planners plan

pub finish_is_best : FinishIsBest
finish_is_best plan planned same = record {
  optimal = record {
    legal = planned.legal;
    least = λ other legal. subst (λ n. n ≤ finish plan.problem other) (same ∙ planned.finish) (planned.none_before other legal);
  };
  finish = planned.finish;
  shown = subst (ShowsBelow plan.cert plan.problem.wants plan.problem) same planned.shown;
}

-- a plan of a problem as it began
pub is_planned : (x : Position) (plan : APlan) → x.all ≡ x.problem.wants → Legal x.problem plan.schedule → finish x.problem plan.schedule ≡ plan.finish → plan.below ≤ plan.finish → NoneBefore x.problem plan.below
    → ShowsBelow plan.certificate x.all x.problem plan.below → IsPlanned (planning_with x.problem plan)
is_planned x plan begun legal ends below none shown = record {
  legal = legal;
  finish = sym ends;
  below = below;
  none_before = none;
  shown = subst (λ all. ShowsBelow plan.certificate all x.problem plan.below) begun shown;
}

-- a plan as its planner promises
pub is_promised : (exact : Bool) (certifies : Certificate → Type 0) (plan : Planning) → IsPlanned plan → (IsTrue exact → plan.below ≡ plan.finish) → certifies plan.cert → IsPromised exact certifies plan
is_promised exact certifies plan planned exactly kind = record { exactly = exactly; best = λ is. finish_is_best plan planned (exactly is); kind = kind }

pub plain_is_plain : PlainIsPlain
plain_is_plain plan planned promised =
    let tokens = promised.kind.0 in
    let cert = promised.kind.1 in
    let shown : AcceptsTokens tokens.items plan.problem plan.below = subst (λ c. ShowsBelow c plan.problem.wants plan.problem plan.below) cert planned.shown in
    record {
      optimal = (promised.best refl).optimal;
      finish = planned.finish;
      tokens = tokens;
      cert = cert;
      accepted = subst (AcceptsTokens tokens.items plan.problem) (promised.exactly refl) shown;
    }

-- what a planning by the plain planner keeps
pub keeps_plainly : (old new : HalfView) (result : Result ℕ PlanRefusal) → PlannedAs old new result → IfOk result (λ _. IfSome new.state.last (IsPromised true IsPlain)) → IfOk result (λ _. IfSome new.state.last IsPlainlyPlanned)
keeps_plainly old new (Ok finish) (none, plan, is, plans, after) promised =
    let last = ap (λ (v : HalfView). v.state.last) after in
    subst (λ l. IfSome l IsPlainlyPlanned) (sym last) (plain_is_plain plan plans.planned (subst (λ l. IfSome l (IsPromised true IsPlain)) last promised))
keeps_plainly old new (Err refusal) planned promised = tt

-- what is shown of the last plan, where it is plain
pub shown_plainly : {A : Type 0} (result : Option A) (shown : A → Planning) (last : Option Planning) → IfSome result (λ r. last ≡ Some (shown r))
    → IfNone result (IfSome last (λ plan. IsPlainPlan plan → ⊥)) → IfSome last IsPlainPlan → MatchOption result (last ≡ None) (λ r. last ≡ Some (shown r))
shown_plainly (Some r) shown last some none is = some
shown_plainly None shown None some none is = refl
shown_plainly None shown (Some plan) some none is = absurd (none is)

-- A planning

stop_alone : (h h' : HalfState) (stopped : Option Cause) → h' ≡ record h { stopped = stopped } → h' ≡ record h { stopped = h'.stopped }
stop_alone h h' stopped is = is ∙ ap (λ o. let z : HalfState = record h { stopped = o } in z) (sym (ap (λ (x : HalfState). x.stopped) is))

-- a planning that is refused changes nothing, save that a stop cause stays
pub refused_is : (s : Setup) (h : HalfState) (refusal : PlanRefusal) (h' : HalfState) → PlanRefused s h refusal h' → h' ≡ record h { stopped = h'.stopped }
refused_is s h (refused.Stopped cause) h' (e, is) = stop_alone h h' (Some cause) is
refused_is s h refused.NothingToPlan h' (e, is) = stop_alone h h' h.stopped is
refused_is s h (refused.Over opened) h' (e, count, more, is) = stop_alone h h' h.stopped is
refused_is s h refused.Memory h' (e, is) = stop_alone h h' h.stopped is

-- the last plan is such after a planning, where a new one is
pub planned_last : (Such : Planning → Type 0) (s : Setup) (h : HalfState) (result : Result ℕ PlanRefusal) (h' : HalfState) → IfOk result (λ _. IfSome h'.last Such) → IfErr result (λ refusal. PlanRefused s h refusal h') → IfSome h.last Such → IfSome h'.last Such
planned_last Such s h (Ok finish) h' new why old = new
planned_last Such s h (Err refusal) h' new why old = subst (λ l. IfSome l Such) (sym (ap (λ (x : HalfState). x.last) (refused_is s h refusal h' why))) old

-- Other events

abbrev pub IsOther : Event → Type 0
IsOther (Plan channel) = ⊥
IsOther _ = Unit {0}

left_by : (o : Outcome) (c : ChannelState) → (after_refusal o c).half.last ≡ c.half.last
left_by (Stopped cause) c = refl
left_by _ c = refl

does_last : (s : Setup) (c : ChannelState) (e : Event) (o : Outcome) (c' : ChannelState) → IsOther e → Does s c e o c' → c'.half.last ≡ c.half.last
does_last s c (Submit host channel r) o c' other d = ap (λ (x : ChannelState). x.half.last) d.1
does_last s c (Accept channel) o c' other (out, (item, behind, is, after)) = ap (λ (x : ChannelState). x.half.last) after
does_last s c (Plan channel) o c' other d = absurd other
does_last s c (Bus channel) o c' other (inl (start, out, runs)) = ap (λ (x : ChannelState). x.half.last) runs.after
does_last s c (Bus channel) o c' other (inr (inl (cause, why, out, fails))) = ap (λ (x : ChannelState). x.half.last) fails.after
does_last s c (Bus channel) o c' other (inr (inr d)) = ap (λ (x : ChannelState). x.half.last) d.1
does_last s c (Wait channel moment) o c' other (out, after) = ap (λ (x : ChannelState). x.half.last) after
does_last s c (Ready channel lun) o c' other (inl (out, after)) = ap (λ (x : ChannelState). x.half.last) after
does_last s c (Ready channel lun) o c' other (inr (out, same)) = ap (λ (x : ChannelState). x.half.last) same
does_last s c (Post channel host) o c' other (r, h, out, goes, after) = ap (λ (x : ChannelState). x.half.last) after ∙ ap (λ (x : HalfState). x.last) goes.after
does_last s c (Collect channel host) o c' other (r, out, at, after) = ap (λ (x : ChannelState). x.half.last) after

by_refusal : (s : Setup) (c : ChannelState) (e : Event) (o : Outcome) (c' : ChannelState) → IsOther e → (refused : Option Outcome) → StepBy refused s c e o c' → c'.half.last ≡ c.half.last
by_refusal s c e o c' other None d = does_last s c e o c' other d
by_refusal s c e o c' other (Some refused) d = ap (λ (x : ChannelState). x.half.last) d.1 ∙ left_by refused c

-- they leave the last plan
pub other_last : (Such : Planning → Type 0) (s : Setup) (c : ChannelState) (e : Event) (o : Outcome) (c' : ChannelState) → IsOther e → Step s c e o c' → IfSome c.half.last Such → IfSome c'.half.last Such
other_last Such s c e o c' other step old = subst (λ l. IfSome l Such) (sym (by_refusal s c e o c' other (refusal s c e) step)) old

-- Plannings

any_last : (last : Option Planning) → IfSome last IsAny
any_last None = tt
any_last (Some plan) = tt

-- whatever was planned is whatever it is
pub any_plans : (o : Outcome) (c : ChannelState) → PlansSuch IsAny o c
any_plans o c finish is = any_last c.half.last

-- what is left of a planning that wasn't accepted
other_plan : (Such : Planning → Type 0) (s : Setup) (c : ChannelState) (channel : ℕ) (o : Outcome) (c' : ChannelState) → Does s c (Plan channel) o c' → PlansSuch Such o c' → IfSome c.half.last Such → IfSome c'.half.last Such
other_plan Such s c channel o c' (inl (plan, out, plans, after)) such old = such plan.finish out
other_plan Such s c channel o c' (inr (inl (out, over, same))) such old = subst (λ (x : ChannelState). IfSome x.half.last Such) (sym same) old
other_plan Such s c channel o c' (inr (inr (out, same))) such old = subst (λ (x : ChannelState). IfSome x.half.last Such) (sym same) old

plan_by : (Such : Planning → Type 0) (s : Setup) (c : ChannelState) (channel : ℕ) (o : Outcome) (c' : ChannelState) (refused : Option Outcome) → StepBy refused s c (Plan channel) o c' → PlansSuch Such o c' → IfSome c.half.last Such → IfSome c'.half.last Such
plan_by Such s c channel o c' None step such old = other_plan Such s c channel o c' step such old
plan_by Such s c channel o c' (Some refused) step such old = subst (λ l. IfSome l Such) (sym (ap (λ (x : ChannelState). x.half.last) step.1 ∙ left_by refused c)) old

-- the last plan stays such, where what a step plans is such
pub step_last : (Such : Planning → Type 0) (s : Setup) (c : ChannelState) (e : Event) (o : Outcome) (c' : ChannelState) → Step s c e o c' → PlansSuch Such o c' → IfSome c.half.last Such → IfSome c'.half.last Such
step_last Such s c (Plan channel) o c' step such old = plan_by Such s c channel o c' (refusal s c (Plan channel)) step such old
step_last Such s c (Submit host channel r) o c' step such old = other_last Such s c (Submit host channel r) o c' tt step old
step_last Such s c (Accept channel) o c' step such old = other_last Such s c (Accept channel) o c' tt step old
step_last Such s c (Bus channel) o c' step such old = other_last Such s c (Bus channel) o c' tt step old
step_last Such s c (Wait channel moment) o c' step such old = other_last Such s c (Wait channel moment) o c' tt step old
step_last Such s c (Ready channel lun) o c' step such old = other_last Such s c (Ready channel lun) o c' tt step old
step_last Such s c (Post channel host) o c' step such old = other_last Such s c (Post channel host) o c' tt step old
step_last Such s c (Collect channel host) o c' step such old = other_last Such s c (Collect channel host) o c' tt step old
