use Rattle.std.proofs.Common.{◌≤◌, refl, sym, subst}
use Rattle.std.proofs.lemmas.Result.{IfOk-weaker}
use Rattle.onfi_known_plan.specs.ByRule.{EndsByFirst, EndsByRule}
use Rattle.onfi_known_plan.specs.Walks.{HasSoMany}
use Rattle.onfi_known_plan.proofs.Gaps.{counted_plan, gap_searched}
use Rattle.onfi_known_plan.proofs.within.plan_within.Goals as goal

pub narrow_gap-requires-clause-gap : goal.narrow_gap-requires-clause-gap
narrow_gap-requires-clause-gap c = gap_searched c.args.problem.now c.args.limit c.in_ok-searched.searched _ c.in_ok-searched.ensures c.in_ok-shown.ensures.shown c.in_ok-shown.ensures.whole c.in_ok-shown.ensures.same refl refl

pub returns-clause-counted : goal.returns-clause-counted
returns-clause-counted c =
    counted_plan c.args.problem.now.problem c.args.limit c.in_ok-narrowed.narrowed c.best_plan.result c.in_ok-narrowed.ensures.counted c.best_plan.ensures.opened c.best_plan.ensures.counted

pub returns-clause-nodes : goal.returns-clause-nodes
returns-clause-nodes c =
    IfOk-weaker c.best_plan.result _ _ (λ plan same. subst (HasSoMany c.args.problem.now.problem) (sym same) c.in_ok-narrowed.ensures.nodes) c.best_plan.ensures.opened

pub returns-clause-by_rule : goal.returns-clause-by_rule
returns-clause-by_rule c =
    IfOk-weaker c.best_plan.result _ _ (λ plan ends. subst (EndsByRule c.args.problem.now.problem) (sym ends) c.in_ok-narrowed.ensures.by_rule) c.best_plan.ensures.finish

pub returns-clause-by_first : goal.returns-clause-by_first
returns-clause-by_first c =
    let gap = c.in_ok-narrowed.ensures in
    IfOk-weaker c.best_plan.result _ _ (λ plan ends. (gap.first, gap.ends, subst (λ n. n ≤ gap.first) (sym ends) gap.sooner)) c.best_plan.ensures.finish
