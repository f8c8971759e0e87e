use Rattle.onfi_demand.proofs.Opened.{asked_is_met}
use Rattle.onfi_demand.proofs.laws.asked_is_met.Goals as goal

pub returns : goal.returns
returns c = asked_is_met
