use Rattle.onfi_schedule.proofs.Following.{done_law}
use Rattle.onfi_schedule.proofs.laws.done_without_phase.Goals as goal

pub returns : goal.returns
returns c = done_law
