use Rattle.onfi_demand.proofs.Opened.{open_asks}
use Rattle.onfi_demand.proofs.laws.open_asks.Goals as goal

pub returns : goal.returns
returns c = open_asks
