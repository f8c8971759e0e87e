use Rattle.std.proofs.Common.{◌≡◌, ◌++◌, ◌∷◌, [], length, sym, ap, ◌∙◌, subst}
use Rattle.std.specs.Prelude.{◌==◌}
use Rattle.std.specs.List.{AllByRecursion as All, flat_map}
use Rattle.std.proofs.lemmas.Bool.{eqb-true}
use Rattle.std.proofs.lemmas.Result.{IfOk-at_ok}
use Rattle.onfi_cert.specs.declared.token.Token.TheVariants.{Branch}
use Rattle.onfi_problem.specs.Moves.{move_lun}
use Rattle.onfi_problem.specs.Position.{move_of, lun_named}
use Rattle.onfi_planner.proofs.Growing.{no_end}
use Rattle.onfi_planner.proofs.Halfway.{steps_same, luns_of, some_items}
use Rattle.onfi_planner.proofs.Splitting.{closed_accepted, branches_length, joined_accepted}
use Rattle.onfi_planner.proofs.Turns.{if_ok}
use Rattle.onfi_planner.proofs.branches.write_parts.Goals as goal

pub returns-in-Some : goal.returns-in-Some
returns-in-Some g c = closed_accepted _ _ _ _ (c.in_ok-push.ensures.items ∙ ap (λ z. z ++ c.in-Some.token ∷ []) c.new-tokens.ensures.items) c.in-Some.ensures

pub unreachable-requires : goal.unreachable-requires
unreachable-requires g c =
    let x = c.args.root.now.problem in
    no_end x c.steps-moves.result c.args.root.now.best.finish c.requires.limits.problem c.steps-moves.ensures.moves (eqb-true _ _ (sym c.if-is_empty.ensures)) c.in_default.ensures c.requires.least

pub join-requires : goal.join-requires
join-requires g c =
    let (yields, are, branches) = c.in_ok-branches.ensures in
    let l = branches_length c.args.root.now.problem c.args.root.now.best.finish yields c.as_slice-steps.result.now c.in_ok-branches.branches.items branches in
    ap length c.as_slice.ensures.value ∙ (l ∙ sym c.of-width.ensures)

pub returns : goal.returns
returns g c =
    let x = c.args.root.now.problem in
    let items = c.as_slice-steps.result.now in
    let are = steps_same x items _ c.as_slice-steps.ensures.value c.steps-moves.ensures.moves in
    let luns = subst (λ z. All (λ s. move_lun (move_of x.groups s) ≡ lun_named s) z) (sym c.as_slice-steps.ensures.value) (luns_of x.groups c.steps-moves.result c.steps-moves.ensures.named) in
    let some = some_items items (c.if-is_empty.ensures ∙ ap (λ z. length z == 0) (sym c.as_slice-steps.ensures.value)) in
    let (yields, ay, branches) = c.in_ok-branches.ensures in
    if_ok c.join.result (λ tokens e.
    let t = IfOk-at_ok _ e c.join.ensures in
    joined_accepted x yields c.args.root.now.best.finish c.of-width.result items c.in_ok-branches.branches.items tokens.items are luns some ay branches c.of-width.ensures (t ∙ ap (λ z. Branch c.of-width.result ∷ flat_map (λ v. v.items) z) c.as_slice.ensures.value))
