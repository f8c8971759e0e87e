use Rattle.onfi_core.specs.Steps.{IsPromised}
use Rattle.onfi_core.proofs.Reaching.{accepting_reached}
use Rattle.onfi_core.proofs.laws.accepting_reached.Goals as goal

pub returns : goal.returns
returns g c = accepting_reached (IsPromised g.P.Planner.exact g.P.Planner.certifies)
