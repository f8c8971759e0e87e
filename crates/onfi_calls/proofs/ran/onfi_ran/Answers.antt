use Rattle.std.proofs.Common.{refl}
use Rattle.onfi_calls.specs.Ran.{is_no_flight, refuses_ran}
use Rattle.onfi_calls.proofs.ran.onfi_ran.Goals as goal

pub returns-in-Err : goal.returns-in-Err
returns-in-Err c = refuses_ran c.in-Err.status (is_no_flight (c.in-Err.ensures.none c.args.schedule.now)) (record { kept = refl; room = refl; count = refl }) c.number-in-Err.ensures
