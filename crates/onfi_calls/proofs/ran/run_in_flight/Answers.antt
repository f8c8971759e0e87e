use Rattle.std.proofs.Common.{refl}
use Rattle.onfi_calls.specs.Ran.{refuses_ran}
use Rattle.onfi_calls.proofs.ran.run_in_flight.Goals as goal

pub returns-in-Err : goal.returns-in-Err
returns-in-Err c = refuses_ran c.in-Err.status c.in-Err.ensures.none (record { kept = refl; room = refl; count = refl }) c.number.ensures
