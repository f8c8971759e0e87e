use Rattle.std.proofs.Common.{rules, refl, subst}
use Rattle.onfi_problem.specs.Position.{Position}
use Rattle.onfi_planner.specs.declared.search.Best.{Best}
use Rattle.onfi_known_plan.specs.Walks.{AreMore, IsBetter, IsProved}
use Rattle.onfi_known_plan.proofs.Gaps.{narrowed}
use Rattle.onfi_known_plan.proofs.Tree.{tree_by_loads}
use Rattle.onfi_known_plan.proofs.gap.narrow_gap.Goals as goal

pub walk_on-requires : goal.walk_on-requires
walk_on-requires c = tree_by_loads c.args.problem.now c.in_ok-at.at c.args.loads.now c.in_ok-at.ensures c.requires.gap.limits c.requires.loads (search rules)

pub returns : goal.returns
returns c =
    let x = c.args.problem.now in
    let e = c.in_ok-at.ensures in
    let walked = c.in_ok-walked in
    let aim : Best = record { finish = c.middle-half.result; steps = c.new.result } in
    narrowed x c.args.limit c.middle-half.result c.args.gap _ aim c.walk_on.new.best walked.walked c.requires.gap (c.if-is_done.ensures refl) c.middle-half.ensures.above c.middle-half.ensures.within refl
    (subst (λ (z : Position). IsBetter z aim c.walk_on.new.best) e walked.ensures.found) c.choose_found-best.ensures.found c.choose_found-best.ensures.kept
    (λ q. subst (λ (z : Position). IsProved z walked.walked.tokens.items c.walk_on.new.best.finish) e (walked.ensures.proved q)) c.show_by_walk-shown.ensures.below c.show_by_walk-shown.ensures.tokens c.show_by_walk-shown.ensures.kept
    walked.ensures.opened walked.ensures.full walked.ensures.counted (subst (λ (z : Position). AreMore z.problem c.middle-half.result walked.walked.opened) e walked.ensures.nodes) refl
