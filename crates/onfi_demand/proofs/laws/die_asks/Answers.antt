use Rattle.onfi_demand.proofs.Bounding.{die_asks}
use Rattle.onfi_demand.proofs.laws.die_asks.Goals as goal

pub returns : goal.returns
returns c = die_asks
