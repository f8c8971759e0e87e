use Rattle.onfi_schedule.proofs.Earlier.{earlier_legal}
use Rattle.onfi_schedule.proofs.laws.earlier_is_legal.Goals as goal

pub returns : goal.returns
returns c = earlier_legal
