use Rattle.onfi_check.proofs.Sound.{certified}
use Rattle.onfi_check.proofs.laws.accepted_is_optimal.Goals as goal

pub returns : goal.returns
returns c = certified
