use Rattle.onfi_core.specs.Steps.{IsPromised}
use Rattle.onfi_core.proofs.Reaching.{step_reaches}
use Rattle.onfi_core.proofs.laws.step_reaches.Goals as goal

pub returns : goal.returns
returns g c = step_reaches (IsPromised g.P.Planner.exact g.P.Planner.certifies)
