use Rattle.std.proofs.Common.{inr}
use Rattle.onfi_calls.specs.Flights.{is_no_problem}
use Rattle.onfi_calls.specs.Refused.{is_problem}
use Rattle.onfi_calls.proofs.problem.measure.Goals as goal

pub returns-then-have_lacking-clause-refused : goal.returns-then-have_lacking-clause-refused
returns-then-have_lacking-clause-refused c = is_problem c.in_ok-timing.ensures.said (inr c.refuse_lacking.ensures)

pub returns-then-have_lacking-clause-none : goal.returns-then-have_lacking-clause-none
returns-then-have_lacking-clause-none c = λ schedule. is_no_problem c.in_ok-timing.ensures.said c.refuse_lacking.ensures
