use Rattle.std.proofs.Common.{◌∙◌, sym, ap, subst}
use Rattle.onfi_problem.specs.Problem.{Problem}
use Rattle.onfi_core.specs.State.{Planning}
use Rattle.onfi_core.specs.Steps.{IsPlanned, IsPromised}
use Rattle.onfi_core.specs.View.{planning_with}
use Rattle.onfi_core.proofs.Promised.{is_planned, is_promised}
use Rattle.onfi_core.proofs.planning.plan_wants.Goals as goal

pub returns-clause-planned : goal.returns-clause-planned
returns-clause-planned g c =
    let e = c.in-Ok-plan.ensures in
    subst IsPlanned (sym (c.of-plan.ensures c.in-Ok.problem.problem)) (is_planned c.in-Ok.problem c.in-Ok-plan.plan (c.in-Ok.ensures.begun ∙ sym (ap (λ (p : Problem). p.wants) c.in-Ok.ensures.ok)) e.legal e.finish e.below e.none_before e.shown)

pub returns-clause-promised : goal.returns-clause-promised
returns-clause-promised g c =
    let e = c.in-Ok-plan.ensures in
    let x = c.in-Ok.problem in
    let plan = c.in-Ok-plan.plan in
    let exact = g.P.Planner.exact in
    let certifies = g.P.Planner.certifies in
    subst (IsPromised exact certifies) (sym (c.of-plan.ensures x.problem))
    (is_promised exact certifies (planning_with x.problem plan) (is_planned x plan (c.in-Ok.ensures.begun ∙ sym (ap (λ (p : Problem). p.wants) c.in-Ok.ensures.ok)) e.legal e.finish e.below e.none_before e.shown) e.exact e.kind)

pub returns-clause-left : goal.returns-clause-left
returns-clause-left g c = c.copy-left.ensures ∙ ap (λ (z : Planning). z.schedule) (sym (c.of-plan.ensures c.in-Ok.problem.problem))
