use Rattle.std.proofs.Common.{sym, ◌∙◌}
use Rattle.onfi_problem.specs.Problem.{HasLengths}
use Rattle.onfi_calls.specs.InOrder.{problem_said}
use Rattle.onfi_calls.specs.Problem.{luns_of}
use Rattle.onfi_calls.proofs.InOrders.{flight_said, some_tells}
use Rattle.onfi_calls.proofs.Stated.{are_lengths}
use Rattle.onfi_calls.proofs.least_due.due_in_order.Goals as goal

pub returns-clause-said : goal.returns-clause-said
returns-clause-said c =
    let measured = c.requires.measured in
    let timing = c.args.timing.now in
    let channel = c.args.channel.now in
    let wants = c.args.wants.now in
    let stated = are_lengths channel wants timing c.args.rules.now.plane_bits measured.spans.sectors measured.lengths in
    let has : HasLengths (problem_said timing c.args.rules.now channel.bus_free (luns_of channel) wants) = record { wants = stated.0; luns = stated.1 } in
    some_tells c.due_of.result
    (flight_said channel wants c.args.schedule.now timing c.args.rules.now measured.spans measured.lengths has c.requires.rules (sym c.is_odd_schedule.ensures ∙ c.if-is_odd_schedule.false)
    (c.is_in_order.ensures.limits timing c.if-not-is_in_order.false))

pub returns-clause-due : goal.returns-clause-due
returns-clause-due c = c.due_of.ensures c.args.timing.now
