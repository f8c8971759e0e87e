use Rattle.onfi_core.proofs.Channels.{run_keeps}
use Rattle.onfi_core.proofs.laws.run_keeps.Goals as goal

pub returns : goal.returns
returns g c = run_keeps g.P.Planner.exact g.P.Planner.certifies
