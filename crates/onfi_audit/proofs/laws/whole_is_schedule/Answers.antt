use Rattle.onfi_audit.proofs.Logs.{whole_law}
use Rattle.onfi_audit.proofs.laws.whole_is_schedule.Goals as goal

pub returns : goal.returns
returns c = whole_law
