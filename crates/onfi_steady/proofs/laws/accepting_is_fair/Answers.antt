use Rattle.onfi_steady.proofs.Fair.{accepts_fairly}
use Rattle.onfi_steady.proofs.laws.accepting_is_fair.Goals as goal

pub returns : goal.returns
returns c = accepts_fairly
