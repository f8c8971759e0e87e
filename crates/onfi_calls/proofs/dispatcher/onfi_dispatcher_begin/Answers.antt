use Rattle.std.proofs.Common.{refl}
use Rattle.onfi_calls.specs.Dispatching.{begins_not}
use Rattle.onfi_calls.proofs.dispatcher.onfi_dispatcher_begin.Goals as goal

pub returns-in-Err : goal.returns-in-Err
returns-in-Err c = begins_not c.in-Err.status c.in-Err.ensures.none refl c.number.ensures
