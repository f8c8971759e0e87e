use Rattle.onfi_core.proofs.Opening.{opened}
use Rattle.onfi_core.proofs.laws.opened_is_reached.Goals as goal

pub returns : goal.returns
returns c = opened
