use Rattle.onfi_die.proofs.Apart.{apart}
use Rattle.onfi_die.proofs.laws.blocks_are_apart.Goals as goal

pub returns : goal.returns
returns c = apart
