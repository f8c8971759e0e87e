use Rattle.onfi_calls.specs.Flights.{is_no_problem}
use Rattle.onfi_calls.proofs.Standing.{too_many}
use Rattle.onfi_calls.proofs.problem.measure_few.Goals as goal

pub returns-then-are_many-clause-none : goal.returns-then-are_many-clause-none
returns-then-are_many-clause-none c = λ schedule.
    let measured = c.in_ok-timing.ensures.measured in
    is_no_problem measured.said
    (too_many c.args.channel.now c.args.wants.now c.in_ok-timing.timing measured.spans measured.said.plane_bits (c.are_many.ensures.0 c.if-are_many.true))
