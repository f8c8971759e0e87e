use Rattle.std.proofs.Common.{refl}
use Rattle.onfi_calls.specs.Output.{refuses_output}
use Rattle.onfi_calls.proofs.output.onfi_output_of.Goals as goal

pub returns-in-Err : goal.returns-in-Err
returns-in-Err c = refuses_output c.in-Err.status c.in-Err.ensures.none refl c.number.ensures
