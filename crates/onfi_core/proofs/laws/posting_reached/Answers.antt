use Rattle.onfi_core.specs.Steps.{IsPromised}
use Rattle.onfi_core.proofs.Reaching.{posting_reached}
use Rattle.onfi_core.proofs.laws.posting_reached.Goals as goal

pub returns : goal.returns
returns g c = posting_reached (IsPromised g.P.Planner.exact g.P.Planner.certifies)
