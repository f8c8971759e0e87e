use Rattle.onfi_demand.proofs.Bounding.{trail_asks}
use Rattle.onfi_demand.proofs.laws.trail_asks.Goals as goal

pub returns : goal.returns
returns c = trail_asks
