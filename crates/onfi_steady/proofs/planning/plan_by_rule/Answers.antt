use Rattle.std.proofs.Common.{◌≤◌, refl, subst, arith}
use Rattle.onfi_plan.specs.declared.plan.Certificate.TheVariants.{Text}
use Rattle.onfi_plan.proofs.Below.{shown_below}
use Rattle.onfi_steady.proofs.RuleRun.{kept_run}
use Rattle.onfi_steady.proofs.planning.plan_by_rule.Goals as goal

pub schedule_of-schedule-requires-clause-run : goal.schedule_of-schedule-requires-clause-run
schedule_of-schedule-requires-clause-run c =
    let small = c.in_ok-best.ensures.small in
    (c.in_ok-best.best.finish, omega arith, kept_run c.args.problem.now c.in_ok-best.best.steps.items c.as_slice.result.now c.in_ok-best.best.finish c.as_slice.ensures.value c.in_ok-best.ensures.run)

pub text_below-requires-clause-reaches : goal.text_below-requires-clause-reaches
text_below-requires-clause-reaches c = c.greatest_bound-greatest.ensures.is_first.is_first.reaches

pub returns-clause-finish : goal.returns-clause-finish
returns-clause-finish c = c.schedule_of-schedule.ensures.finish c.in_ok-best.best.finish (kept_run c.args.problem.now c.in_ok-best.best.steps.items c.as_slice.result.now c.in_ok-best.best.finish c.as_slice.ensures.value c.in_ok-best.ensures.run)

pub returns-clause-below : goal.returns-clause-below
returns-clause-below c =
    let x = c.args.problem.now in
    let g = c.greatest_bound-greatest.result in
    let limits = c.in_limits.ensures.limits in
    let ends = c.schedule_of-schedule.ensures.finish c.in_ok-best.best.finish (kept_run x c.in_ok-best.best.steps.items c.as_slice.result.now c.in_ok-best.best.finish c.as_slice.ensures.value c.in_ok-best.ensures.run) in
    subst (λ z. g.at ≤ z) ends (shown_below (Text c.in_ok-text.text) x.all x.problem g.at limits.problem limits.small c.in_ok-text.ensures c.schedule_of-schedule.result c.schedule_of-schedule.ensures.legal)

pub returns-clause-kind : goal.returns-clause-kind
returns-clause-kind c = (c.in_ok-text.text, refl)
