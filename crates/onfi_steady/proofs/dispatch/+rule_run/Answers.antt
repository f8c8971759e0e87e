use Rattle.std.proofs.Common.{◌∙◌, ap, arith, subst, sym}
use Rattle.onfi_problem.specs.Moves.{after}
use Rattle.onfi_problem.specs.Position.{Position}
use Rattle.onfi_planner.specs.Planning.{work}
use Rattle.onfi_bound.proofs.BusWork.{work_after}
use Rattle.onfi_steady.specs.Dispatcher.{begun_books}
use Rattle.onfi_steady.specs.Next.{move_of_phase}
use Rattle.onfi_steady.specs.Rule.{IsFor}
use Rattle.onfi_steady.proofs.Batch.{next_for, phase_starts_early, ran_for, still_for, way_step}
use Rattle.onfi_steady.proofs.dispatch.+rule_run.Goals as goal

pub run_due-requires-clause-time : goal.run_due-requires-clause-time
run_due-requires-clause-time t c =
    let p = c.args.problem.now.problem in
    let limits = c.bus_free-bus_free.ensures.limits in
    let books = c.requires.books.0 in
    let is = c.requires.books.1 in
    phase_starts_early p books c.in-Some.phase limits (next_for p books c.args.dispatcher.now c.bus_free-bus_free.result c.in-Some.phase is c.bus_free-bus_free.ensures.value (c.in-Some.ensures.next p.timing books is.is))

pub rule_run-requires : goal.rule_run-requires
rule_run-requires t c =
    let x = c.args.problem.now in
    let p = x.problem in
    let limits = c.bus_free-bus_free.ensures.limits in
    let books = c.requires.books.0 in
    let is = c.requires.books.1 in
    let d = c.args.dispatcher.now in
    let phase = c.in-Some.phase in
    let next = next_for p books d c.bus_free-bus_free.result phase is c.bus_free-bus_free.ensures.value (c.in-Some.ensures.next p.timing books is.is) in
    let moved = ap (λ (z : Position). z.problem) c.advance-undo.ensures.moved ∙ ap (after p) c.step_of-step.ensures.step in
    let w = ap work moved in
    let less = work_after x.problem (move_of_phase phase) limits.problem next.move in
    let mid = still_for p books d c.next.new.self is (c.in-Some.ensures.same p.timing books is.is) c.in-Some.ensures.states c.in-Some.ensures.bus_free in
    let left = ran_for p books c.next.new.self c.run_due.new.self phase limits.problem mid c.in-Some.ensures.due next (c.run_due.ensures.ran p.timing books mid.is) in
    (omega (arith, c.decreases, w, less), (c.requires.none, (begun_books books phase.lun phase.members.items, subst (λ z. IsFor z (begun_books books phase.lun phase.members.items) c.run_due.new.self) (sym moved) left)))

pub returns-clause-run : goal.returns-clause-run
returns-clause-run t c = λ books is.
    let x = c.args.problem.now in
    let p = x.problem in
    let limits = c.bus_free-bus_free.ensures.limits in
    let d = c.args.dispatcher.now in
    let phase = c.in-Some.phase in
    let next = next_for p books d c.bus_free-bus_free.result phase is c.bus_free-bus_free.ensures.value (c.in-Some.ensures.next p.timing books is.is) in
    let moved = c.advance-undo.ensures.moved in
    let step = c.step_of-step.ensures.step in
    let mid = still_for p books d c.next.new.self is (c.in-Some.ensures.same p.timing books is.is) c.in-Some.ensures.states c.in-Some.ensures.bus_free in
    let left = ran_for p books c.next.new.self c.run_due.new.self phase limits.problem mid c.in-Some.ensures.due next (c.run_due.ensures.ran p.timing books mid.is) in
    let left' = subst (λ z. IsFor z (begun_books books phase.lun phase.members.items) c.run_due.new.self) (sym (ap (λ (z : Position). z.problem) moved ∙ ap (after p) step)) left in
    let more = c.in_ok-finish.ensures.run (begun_books books phase.lun phase.members.items) left' in
    way_step x books phase c.step_of-step.result c.advance-undo.new.self c.rule_run.new.steps.items c.push.new.self.items c.in_ok-finish.finish next step moved more c.in_ok-push.ensures.items
