use Rattle.onfi_core.proofs.Running.{planning_step}
use Rattle.onfi_core.proofs.laws.planned_step.Goals as goal

pub returns : goal.returns
returns c = planning_step
