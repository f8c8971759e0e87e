use Rattle.std.proofs.Common.{◌≡◌, ap, sym, ◌∙◌, arith, subst, length}
use Rattle.std.specs.Prelude.{◌==◌}
use Rattle.std.proofs.lemmas.Bool.{eqb-true}
use Rattle.onfi_problem.specs.Moves.{after}
use Rattle.onfi_problem.specs.Position.{Position, move_of}
use Rattle.onfi_check.specs.First.{IsFirstRun}
use Rattle.onfi_planner.specs.Planning.{work, run_of}
use Rattle.onfi_bound.proofs.BusWork.{work_after}
use Rattle.onfi_planner.proofs.Beginning.{first_done}
use Rattle.onfi_planner.proofs.Below.{first_more, handed_back}
use Rattle.onfi_planner.proofs.Halfway.{steps_same, some_items}
use Rattle.onfi_planner.proofs.first.+first_run.Goals as goal

pub returns-then-is_empty-clause-run : goal.returns-then-is_empty-clause-run
returns-then-is_empty-clause-run t c = first_done c.args.problem.now c.steps-moves.result c.args.steps.now.items c.bus_free-bus_free.result c.bus_free-bus_free.ensures.limits.problem c.steps-moves.ensures.moves (eqb-true _ _ (sym c.if-is_empty.ensures)) c.requires.none c.bus_free-bus_free.ensures.value

pub first_run-requires : goal.first_run-requires
first_run-requires t c =
    let x = c.args.problem.now in
    let m = move_of x.groups c.first_choice-step.result in
    let less = work_after x.problem m c.bus_free-bus_free.ensures.limits.problem c.first_choice-step.ensures.choice.is_move in
    let w : work c.advance-undo.new.self.problem ≡ work (after x.problem m) = ap (λ (z : Position). work z.problem) c.advance-undo.ensures.moved in
    (omega (arith, c.decreases, w, less), c.requires.none)

pub first_choice-step-requires-clause-some : goal.first_choice-step-requires-clause-some
first_choice-step-requires-clause-some t c = some_items c.as_slice.result.now (c.if-is_empty.ensures ∙ ap (λ z. length z == 0) (sym c.as_slice.ensures.value))

pub first_choice-step-requires-clause-moves : goal.first_choice-step-requires-clause-moves
first_choice-step-requires-clause-moves t c = steps_same c.args.problem.now c.as_slice.result.now _ c.as_slice.ensures.value c.steps-moves.ensures.moves

pub returns-clause-problem : goal.returns-clause-problem
returns-clause-problem t c = handed_back c.args.problem.now _ c.first_run.new.problem _ c.advance-undo.result c.in_ok-finish.ensures.problem c.advance-undo.ensures.undo c.undo.ensures

pub returns-clause-run : goal.returns-clause-run
returns-clause-run t c =
    let x = c.args.problem.now in
    let run = subst (λ (z : Position). IsFirstRun z.problem (run_of z.groups c.first_run.new.steps.items) c.in_ok-finish.finish) c.advance-undo.ensures.moved c.in_ok-finish.ensures.run in
    first_more x (record { step = c.first_choice-step.result; start = c.earliest-start.result }) c.first_run.new.steps.items _ c.in_ok-finish.finish c.first_choice-step.ensures.choice c.earliest-start.ensures c.in_ok-push.ensures.items run

pub returns-clause-small : goal.returns-clause-small
returns-clause-small t c = c.in_ok-finish.ensures.small

pub returns-clause-limits : goal.returns-clause-limits
returns-clause-limits t c = c.bus_free-bus_free.ensures.limits
