use Rattle.std.proofs.Common.{◌∙◌, refl, sym, get_or}
use Rattle.onfi_problem.specs.declared.moves.Move.TheVariants.{Next}
use Rattle.onfi_planner.proofs.Choosing.{chosen_begin, chosen_kept, chosen_new, chosen_move, chosen_named, chosen_all, item_move}
use Rattle.onfi_planner.proofs.first.first_choice.Goals as goal
use Rattle.onfi_planner.proofs.first.first_choice.Goals.{then-goes_first, else-goes_first}

pub loop-m-init : goal.loop-m-init
loop-m-init c = chosen_begin c.args.problem.now.problem c.args.problem.now.groups c.args.moves.now (Next 0) c.requires.some c.requires.moves

pub goes_first-requires-clause-step : goal.goes_first-requires-clause-step
goes_first-requires-clause-step c = item_move c.args.problem.now.problem c.args.problem.now.groups c.args.moves.now c.loop-m.m-index (Next 0) c.loop-m-test.true c.requires.moves

pub goes_first-requires-clause-other_step : goal.goes_first-requires-clause-other_step
goes_first-requires-clause-other_step c = chosen_move c.args.problem.now.problem c.args.problem.now.groups c.args.moves.now c.loop-m.m-index c.loop-m.choice c.requires.moves c.loop-m.invariant

pub goes_first-requires-clause-other_named : goal.goes_first-requires-clause-other_named
goes_first-requires-clause-other_named c = chosen_named c.args.problem.now.problem c.args.problem.now.groups c.args.moves.now c.loop-m.m-index c.loop-m.choice c.requires.named c.loop-m.invariant

pub loop-m-preserved : goal.loop-m-preserved
loop-m-preserved c =
    let x = c.args.problem.now in
    let moves = c.args.moves.now in
    let s = get_or moves c.loop-m.m-index (Next 0) in
    elim c.if-goes_first.branch [
      | then-goes_first w ↦ rw w.choice-is (chosen_new x.problem x.groups moves c.loop-m.m-index c.loop-m.choice s (Next 0) refl c.loop-m-test.true c.requires.moves (sym c.goes_first.ensures ∙ w.if-goes_first.true) c.loop-m.invariant)
      | else-goes_first w ↦ rw w.choice-is (chosen_kept x.problem x.groups moves c.loop-m.m-index c.loop-m.choice s (Next 0) refl c.loop-m-test.true (sym c.goes_first.ensures ∙ w.if-goes_first.false) c.loop-m.invariant)
    ]

pub returns-clause-choice : goal.returns-clause-choice
returns-clause-choice c = chosen_all c.args.problem.now.problem c.args.problem.now.groups c.args.moves.now c.loop-m.m-index c.loop-m.choice c.loop-m-test.false c.requires.moves c.loop-m.invariant

pub returns-clause-named : goal.returns-clause-named
returns-clause-named c = chosen_named c.args.problem.now.problem c.args.problem.now.groups c.args.moves.now c.loop-m.m-index c.loop-m.choice c.requires.named c.loop-m.invariant
