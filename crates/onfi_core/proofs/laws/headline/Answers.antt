use Rattle.onfi_core.proofs.Channels.{headline}
use Rattle.onfi_core.proofs.laws.headline.Goals as goal

pub returns : goal.returns
returns g c = headline g.P.Planner.exact g.P.Planner.certifies
