use Rattle.std.proofs.Common.{refl, subst}
use Rattle.std.proofs.lemmas.Result.{IfOk-weaker, IfErr-weaker}
use Rattle.onfi_calls.specs.Due.{IsDueSaid, IsNoneDue, IsOffDevice, IsOnDevice, is_illegal, is_no_flight, is_off, is_over}
use Rattle.onfi_calls.proofs.Stated.{measured_by}
use Rattle.onfi_calls.proofs.due.due_in_flight.Goals as goal

pub fill-requires-clause-measured : goal.fill-requires-clause-measured
fill-requires-clause-measured c = measured_by c.idle-flight.result _ c.idle-flight.ensures c.requires.measured

pub returns-in-Err-clause-none : goal.returns-in-Err-clause-none
returns-in-Err-clause-none c = is_no_flight c.in-Err.ensures.none

pub returns-in-Due-clause-due : goal.returns-in-Due-clause-due
returns-in-Due-clause-due c =
    IfOk-weaker c.phase_on.result (λ phase. IsOnDevice c.timing.result c.args.geometry.now c.in-Due.due phase)
    (IsDueSaid c.args.channel.now c.args.wants.now c.args.geometry.now c.args.schedule.now)
    (λ phase on. record {
      flight = c.fill.new.flight;
      said = c.in-Ok.ensures.said;
      due = c.in-Due.due;
      is = c.in-Due.ensures.tells;
      on = subst (λ t. IsOnDevice t c.args.geometry.now c.in-Due.due phase) c.timing.ensures on;
    }) c.phase_on.ensures.phase

pub returns-in-Due-clause-none : goal.returns-in-Due-clause-none
returns-in-Due-clause-none c =
    IfErr-weaker c.phase_on.result (λ status. IsOffDevice c.args.geometry.now c.in-Due.due status)
    (IsNoneDue c.args.channel.now c.args.wants.now c.args.geometry.now c.args.schedule.now)
    (λ status off. is_off c.fill.new.flight c.in-Ok.ensures.said c.in-Due.due c.in-Due.ensures.tells off) c.phase_on.ensures.none

pub returns-in-Done-clause-none : goal.returns-in-Done-clause-none
returns-in-Done-clause-none c = is_over c.fill.new.flight c.in-Ok.ensures.said c.in-Done.ensures.tells.0 c.in-Done.ensures.tells.1 c.over_status.ensures

pub returns-clause-none : goal.returns-clause-none
returns-clause-none c = is_illegal c.fill.new.flight c.in-Ok.ensures.said c.in-Illegal.ensures.tells refl
