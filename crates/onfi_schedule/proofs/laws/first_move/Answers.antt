use Rattle.onfi_schedule.proofs.Following.{first_move_law}
use Rattle.onfi_schedule.proofs.laws.first_move.Goals as goal

pub returns : goal.returns
returns c = first_move_law
