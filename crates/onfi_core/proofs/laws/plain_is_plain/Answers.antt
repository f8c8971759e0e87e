use Rattle.onfi_core.proofs.Promised.{plain_is_plain}
use Rattle.onfi_core.proofs.laws.plain_is_plain.Goals as goal

pub returns : goal.returns
returns c = plain_is_plain
