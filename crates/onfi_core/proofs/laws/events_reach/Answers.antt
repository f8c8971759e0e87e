use Rattle.onfi_core.specs.Steps.{IsPromised}
use Rattle.onfi_core.proofs.Reaching.{events_reach}
use Rattle.onfi_core.proofs.laws.events_reach.Goals as goal

pub returns : goal.returns
returns g c = events_reach (IsPromised g.P.Planner.exact g.P.Planner.certifies)
