use Rattle.std.proofs.Common.{refl}
use Rattle.onfi_calls.specs.Device.{refuses}
use Rattle.onfi_calls.proofs.device_of_page.onfi_device_of_page.Goals as goal

pub returns-in-Err : goal.returns-in-Err
returns-in-Err c = refuses c.in-Err.refusal c.in-Err.ensures.none refl refl c.number.ensures
