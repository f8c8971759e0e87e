use Rattle.std.proofs.Common.{arith}
use Rattle.onfi_param.specs.Fields.{four_bytes}
use Rattle.onfi_param.proofs.page.ParamPage.four_bytes.Goals as goal

pub returns : goal.returns
unfolding four_bytes
returns c = omega (arith, c.two_bytes.ensures, c.two_bytes-2.ensures)
