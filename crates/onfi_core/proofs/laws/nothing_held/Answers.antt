use Rattle.onfi_core.proofs.HeldFor.{nothing_held}
use Rattle.onfi_core.proofs.laws.nothing_held.Goals as goal

pub returns : goal.returns
returns c = nothing_held
