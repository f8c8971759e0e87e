use Rattle.onfi_core.specs.Steps.{IsPromised}
use Rattle.onfi_core.proofs.Reaching.{batch_reached}
use Rattle.onfi_core.proofs.laws.batch_reached.Goals as goal

pub returns : goal.returns
returns g c = batch_reached (IsPromised g.P.Planner.exact g.P.Planner.certifies)
