use Rattle.onfi_core.proofs.HeldFor.{posted_in_order}
use Rattle.onfi_core.proofs.laws.posted_in_order.Goals as goal

pub returns : goal.returns
returns c = posted_in_order
