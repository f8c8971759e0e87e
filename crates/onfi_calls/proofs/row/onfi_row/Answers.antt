use Rattle.std.proofs.Common.{refl}
use Rattle.onfi_calls.specs.Geometry.{refuses_row}
use Rattle.onfi_calls.proofs.row.onfi_row.Goals as goal

pub returns-in-Err : goal.returns-in-Err
returns-in-Err c = refuses_row c.in-Err.status c.in-Err.ensures.none refl c.number.ensures
