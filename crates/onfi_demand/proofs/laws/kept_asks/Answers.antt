use Rattle.onfi_demand.proofs.Keeping.{kept_asks}
use Rattle.onfi_demand.proofs.laws.kept_asks.Goals as goal

pub returns : goal.returns
returns c = kept_asks
