use Rattle.onfi_schedule.proofs.Following.{next_law}
use Rattle.onfi_schedule.proofs.laws.next_phase.Goals as goal

pub returns : goal.returns
returns c = next_law
