use Rattle.std.proofs.Common.{arith}
use Rattle.onfi_param.specs.Fields.{two_bytes}
use Rattle.onfi_param.proofs.page.ParamPage.two_bytes.Goals as goal

pub returns : goal.returns
unfolding two_bytes
returns c = rw (← c.self.view_is) (omega (arith, c.from_le_bytes.ensures))
