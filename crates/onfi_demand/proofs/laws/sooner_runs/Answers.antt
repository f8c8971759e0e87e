use Rattle.onfi_demand.proofs.Sooner.{sooner_runs}
use Rattle.onfi_demand.proofs.laws.sooner_runs.Goals as goal

pub returns : goal.returns
returns c = sooner_runs
