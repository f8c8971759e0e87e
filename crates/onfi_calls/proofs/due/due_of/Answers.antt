use Rattle.std.proofs.lemmas.Result.{IfOk-weaker, IfErr-weaker}
use Rattle.onfi_calls.specs.Due.{IsDueSaid, IsNoneDue, IsOffDevice, IsOnDevice, is_off}
use Rattle.onfi_calls.specs.InOrder.{flight_of}
use Rattle.onfi_calls.specs.Problem.{luns_of}
use Rattle.onfi_calls.proofs.due.due_of.Goals as goal

pub phase_on-requires-clause-within : goal.phase_on-requires-clause-within
phase_on-requires-clause-within c = c.in-Some.ensures.due.within

pub phase_on-requires-clause-time : goal.phase_on-requires-clause-time
phase_on-requires-clause-time c = c.in-Some.ensures.due.time

pub returns-in-Some-clause-due : goal.returns-in-Some-clause-due
returns-in-Some-clause-due c =
    let channel = c.args.channel.now in
    IfOk-weaker c.phase_on.result (λ phase. IsOnDevice c.args.timing.now c.args.geometry.now c.in-Some.due phase)
    (IsDueSaid channel c.args.wants.now c.args.geometry.now c.args.schedule.now)
    (λ phase on. record {
      flight = flight_of c.args.timing.now c.rules-rules.result channel.bus_free (luns_of channel) c.args.wants.now c.args.schedule.now;
      said = c.in-Some.ensures.said;
      due = c.in-Some.due;
      is = c.in-Some.ensures.due;
      on = on;
    }) c.phase_on.ensures.phase

pub returns-in-Some-clause-none : goal.returns-in-Some-clause-none
returns-in-Some-clause-none c =
    let channel = c.args.channel.now in
    IfErr-weaker c.phase_on.result (λ status. IsOffDevice c.args.geometry.now c.in-Some.due status)
    (IsNoneDue channel c.args.wants.now c.args.geometry.now c.args.schedule.now)
    (λ status off. is_off (flight_of c.args.timing.now c.rules-rules.result channel.bus_free (luns_of channel) c.args.wants.now c.args.schedule.now)
    c.in-Some.ensures.said c.in-Some.due c.in-Some.ensures.due off) c.phase_on.ensures.none
