use Rattle.onfi_schedule.proofs.RunLegal.{run_legal}
use Rattle.onfi_schedule.proofs.laws.run_is_legal.Goals as goal

pub returns : goal.returns
returns c = λ p steps end. run_legal steps p end
