use Rattle.onfi_known_check.proofs.Sound.{proved_is_optimal}
use Rattle.onfi_known_check.proofs.laws.proved_is_optimal.Goals as goal

pub returns : goal.returns
returns c = proved_is_optimal
