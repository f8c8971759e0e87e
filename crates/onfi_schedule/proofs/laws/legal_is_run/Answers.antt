use Rattle.onfi_schedule.proofs.Least.{legal_run}
use Rattle.onfi_schedule.proofs.laws.legal_is_run.Goals as goal

pub returns : goal.returns
returns c = legal_run
