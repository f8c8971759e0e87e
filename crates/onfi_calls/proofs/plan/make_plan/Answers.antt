use Rattle.std.proofs.Common.{◌≤◌, refl, sym, subst}
use Rattle.onfi_known_check.specs.Laws.{NoneBefore}
use Rattle.onfi_plan.specs.Certificate.{ShowsBelow}
use Rattle.onfi_planners.specs.Choice.{IsMadeFrom, IsPlannedBy}
use Rattle.onfi_calls.specs.Plan as spec
use Rattle.onfi_calls.proofs.plan.make_plan.Goals as goal

pub returns-then-not-options-clause-plan : goal.returns-then-not-options-clause-plan
returns-then-not-options-clause-plan c =
    let x = c.args.problem.now in
    let options = c.args.options.now in
    let plan = c.in-Ok.plan in
    let e = c.in-Ok.ensures in
    record {
      legal = e.legal;
      ends = e.finish;
      rising = e.rising;
      least = e.below;
      none_before = e.none_before;
      shown = e.shown;
      within = subst (λ n. plan.opened ≤ n) c.requires e.opened;
      first = plan;
      planned = subst (λ n. IsPlannedBy c.args.by x n plan) c.requires e.promised;
      early = subst (λ b. spec.MadeEarly b (spec.weights_of options.weights) x plan plan) (sym c.if-not-options.true) refl;
    }

pub returns-in-Ok-make_better-clause-plan : goal.returns-in-Ok-make_better-clause-plan
returns-in-Ok-make_better-clause-plan c =
    let x = c.args.problem.now in
    let options = c.args.options.now in
    let first = c.in-Ok.plan in
    let better = c.in-Ok-make_better.better in
    let e = c.in-Ok.ensures in
    let b = c.in-Ok-make_better.ensures in
    record {
      legal = b.legal;
      ends = b.finish;
      rising = b.rising e.rising;
      least = b.below;
      none_before = subst (NoneBefore x.problem) (sym b.made.below) e.none_before;
      shown = subst (ShowsBelow better.certificate x.all x.problem) (sym b.made.below) (subst (λ k. ShowsBelow k x.all x.problem first.below) (sym b.made.certificate) e.shown);
      within = subst (λ n. n ≤ options.limit) (sym b.made.opened) (subst (λ n. first.opened ≤ n) c.requires e.opened);
      first = first;
      planned = subst (λ n. IsPlannedBy c.args.by x n first) c.requires e.promised;
      early = subst (λ b. spec.MadeEarly b (spec.weights_of options.weights) x first better) (sym c.if-not-options.false) (subst (λ w. IsMadeFrom w x first better) c.weights_of-weights.ensures b.made);
    }
