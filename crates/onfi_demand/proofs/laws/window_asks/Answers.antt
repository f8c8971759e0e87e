use Rattle.onfi_demand.proofs.WindowAsks.{window_asks}
use Rattle.onfi_demand.proofs.laws.window_asks.Goals as goal

pub returns : goal.returns
returns c = window_asks
