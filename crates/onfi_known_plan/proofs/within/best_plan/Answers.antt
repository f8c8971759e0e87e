use Rattle.std.proofs.Common.{refl, ap, ◌∙◌, ◌++◌}
use Rattle.onfi_known_check.specs.Text.{header, line}
use Rattle.onfi_known_plan.proofs.Tree.{text_is, within_plan}
use Rattle.onfi_known_plan.proofs.within.best_plan.Goals as goal

pub returns-clause-plan : goal.returns-clause-plan
returns-clause-plan c =
    let x = c.args.problem.now in
    let gap = c.args.gap.now in
    let schedule = c.schedule_of-schedule.ensures in
    within_plan x gap.best gap.shown _ c.in_ok-text.text c.requires.limits schedule.legal (schedule.finish gap.best.finish (rw c.as_slice.ensures.value c.requires.run)) schedule.rising c.requires.shown refl refl refl
    (c.in_ok-text.ensures ∙ (ap (λ rules. header rules.strict ++ line c.as_slice-2.result.now) c.rules.ensures ∙ ap (λ z. header x.problem.rules.strict ++ line z) c.as_slice-2.ensures.value))

pub returns-clause-counted : goal.returns-clause-counted
returns-clause-counted c =
    let x = c.args.problem.now in
    let shown = c.args.gap.now.shown in
    let tokens = shown.tokens.items in
    let text = c.in_ok-text.ensures ∙ (ap (λ rules. header rules.strict ++ line c.as_slice-2.result.now) c.rules.ensures ∙ ap (λ z. header x.problem.rules.strict ++ line z) c.as_slice-2.ensures.value) in
    (tokens, text_is x tokens c.in_ok-text.text.items shown.below c.requires.shown.proved text, refl)
