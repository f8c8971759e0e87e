use Rattle.onfi_calls.specs.Due.{is_no_flight}
use Rattle.onfi_calls.proofs.due.find_due.Goals as goal

pub returns-in-Err-clause-none : goal.returns-in-Err-clause-none
returns-in-Err-clause-none c = is_no_flight (c.in-Err.ensures.none c.args.schedule.now)
