use Rattle.onfi_core.proofs.HeldFor.{next_behind}
use Rattle.onfi_core.proofs.laws.next_behind.Goals as goal

pub returns : goal.returns
returns c = next_behind
