use Rattle.onfi_core.proofs.Promise.{promise}
use Rattle.onfi_core.proofs.laws.reached_keeps.Goals as goal

pub returns : goal.returns
returns g c = promise g.P.Planner.exact g.P.Planner.certifies
