use Rattle.onfi_die.proofs.Stable.{stay_rightful}
use Rattle.onfi_die.proofs.laws.rightful_stays.Goals as goal

pub returns : goal.returns
returns c = stay_rightful
