use Rattle.std.proofs.Common.{◌≡◌, length, get_or, refl, sym, ◌∙◌}
use Rattle.std.specs.Prelude.{vec_len}
use Rattle.std.proofs.lemmas.Result.{IfOk-at_ok, IfErr-at_err}
use Rattle.onfi_problem.specs.declared.moves.Move.TheVariants.{Next}
use Rattle.onfi_planner.proofs.Splitting.{found_all}
use Rattle.onfi_planner.proofs.Turns.{if_ok, if_err}
use Rattle.onfi_planner.proofs.parts.search_each.Goals as goal
use Rattle.onfi_group.proofs.Lists.{Has-get}

pub returns-clause-found : goal.returns-clause-found
returns-clause-found g c = if_ok c.do_in_turn.result (λ found e.
    let long : vec_len found ≡ length c.args.parts.now = IfOk-at_ok _ e c.do_in_turn.ensures.len in
    let given = IfOk-at_ok _ e c.do_in_turn.ensures.answers in
    found_all _ _ c.args.root.now.problem c.args.root.now.best.finish c.args.limit c.args.parts.now found.items given (sym found.ok.0 ∙ long) (λ k d part lt gives. gives.met.0 d))

pub returns-clause-over : goal.returns-clause-over
returns-clause-over g c = if_err c.do_in_turn.result (λ stop e over.
    let refuse = IfErr-at_err _ e c.do_in_turn.ensures.over over in
    (get_or c.args.parts.now refuse.call (Next 0), Has-get c.args.parts.now refuse.call (Next 0) refuse.below, refuse.refuses.met.1 (Next 0) refl))
