use Rattle.onfi_demand.proofs.Bounding.{end_asks}
use Rattle.onfi_demand.proofs.laws.end_asks.Goals as goal

pub returns : goal.returns
returns c = end_asks
