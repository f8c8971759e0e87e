use Rattle.onfi_demand.proofs.Bounding.{bus_asks}
use Rattle.onfi_demand.proofs.laws.bus_asks.Goals as goal

pub returns : goal.returns
returns c = bus_asks
