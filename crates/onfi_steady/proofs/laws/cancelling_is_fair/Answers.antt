use Rattle.onfi_steady.proofs.Fair.{cancels_fairly}
use Rattle.onfi_steady.proofs.laws.cancelling_is_fair.Goals as goal

pub returns : goal.returns
returns c = cancels_fairly
