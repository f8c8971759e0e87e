use Rattle.std.proofs.Common.{◌≡◌, ap, sym, ◌∙◌, arith, subst, length}
use Rattle.std.specs.Prelude.{◌==◌}
use Rattle.std.proofs.lemmas.Bool.{eqb-true}
use Rattle.onfi_problem.specs.Moves.{after}
use Rattle.onfi_problem.specs.Position.{Position, move_of}
use Rattle.onfi_schedule.specs.Runs.{Run}
use Rattle.onfi_planner.specs.Planning.{work, run_of}
use Rattle.onfi_bound.proofs.BusWork.{work_after}
use Rattle.onfi_planner.proofs.Below.{handed_back}
use Rattle.onfi_planner.proofs.Halfway.{steps_same, some_items}
use Rattle.onfi_known_plan.proofs.Node.{done_run, step_run}
use Rattle.onfi_known_plan.proofs.choosing.+run_by.Goals as goal

pub returns-then-is_empty-clause-run : goal.returns-then-is_empty-clause-run
returns-then-is_empty-clause-run t c = done_run c.args.problem.now c.list_steps.new.moves c.args.steps.now.items c.bus_free-bus_free.result c.bus_free-bus_free.ensures.limits.problem c.list_steps.ensures.moves (eqb-true _ _ (sym c.if-is_empty.ensures)) c.requires.none c.bus_free-bus_free.ensures.value

pub run_by-requires : goal.run_by-requires
run_by-requires t c =
    let x = c.args.problem.now in
    let m = move_of x.groups c.choice-step.result in
    let less = work_after x.problem m c.bus_free-bus_free.ensures.limits.problem c.choice-step.ensures.move in
    let w : work c.advance-undo.new.self.problem ≡ work (after x.problem m) = ap (λ (z : Position). work z.problem) c.advance-undo.ensures.moved in
    (omega (arith, c.decreases, w, less), c.requires.none)

pub choice-step-requires-clause-some : goal.choice-step-requires-clause-some
choice-step-requires-clause-some t c = some_items c.as_slice.result.now (c.if-is_empty.ensures ∙ ap (λ z. length z == 0) (sym c.as_slice.ensures.value))

pub choice-step-requires-clause-moves : goal.choice-step-requires-clause-moves
choice-step-requires-clause-moves t c = steps_same c.args.problem.now c.as_slice.result.now _ c.as_slice.ensures.value c.list_steps.ensures.moves

pub returns-clause-problem : goal.returns-clause-problem
returns-clause-problem t c = handed_back c.args.problem.now _ c.run_by.new.problem _ c.advance-undo.result c.in_ok-finish.ensures.problem c.advance-undo.ensures.undo c.undo.ensures

pub returns-clause-run : goal.returns-clause-run
returns-clause-run t c =
    let x = c.args.problem.now in
    let run = subst (λ (z : Position). Run z.problem (run_of z.groups c.run_by.new.steps.items) c.in_ok-finish.finish) c.advance-undo.ensures.moved c.in_ok-finish.ensures.run in
    step_run x (record { step = c.choice-step.result; start = c.earliest-start.result }) c.run_by.new.steps.items _ c.in_ok-finish.finish c.choice-step.ensures.move c.earliest-start.ensures c.in_ok-push.ensures.items run
