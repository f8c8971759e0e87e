use Rattle.onfi_schedule.proofs.Back.{move_back}
use Rattle.onfi_schedule.proofs.laws.move_back.Goals as goal

pub returns : goal.returns
returns c = move_back
