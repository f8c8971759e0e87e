use Rattle.std.proofs.Common.{refl}
use Rattle.onfi_calls.specs.Due.{refuses_due}
use Rattle.onfi_calls.proofs.due.onfi_due.Goals as goal

pub returns-in-Err : goal.returns-in-Err
returns-in-Err c = refuses_due c.in-Err.status c.in-Err.ensures.none refl c.number.ensures
