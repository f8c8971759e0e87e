use Rattle.onfi_demand.proofs.Stepping.{step_asks}
use Rattle.onfi_demand.proofs.laws.step_asks.Goals as goal

pub returns : goal.returns
returns c = step_asks
