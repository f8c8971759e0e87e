use Rattle.onfi_demand.proofs.Bounding.{lead_asks}
use Rattle.onfi_demand.proofs.laws.lead_asks.Goals as goal

pub returns : goal.returns
returns c = lead_asks
