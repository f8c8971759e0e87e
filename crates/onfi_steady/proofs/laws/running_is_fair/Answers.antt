use Rattle.onfi_steady.proofs.Fair.{runs_fairly}
use Rattle.onfi_steady.proofs.laws.running_is_fair.Goals as goal

pub returns : goal.returns
returns c = runs_fairly
