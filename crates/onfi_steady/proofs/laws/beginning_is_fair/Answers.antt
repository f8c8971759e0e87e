use Rattle.onfi_steady.proofs.Fair.{begins_fairly}
use Rattle.onfi_steady.proofs.laws.beginning_is_fair.Goals as goal

pub returns : goal.returns
returns c = begins_fairly
