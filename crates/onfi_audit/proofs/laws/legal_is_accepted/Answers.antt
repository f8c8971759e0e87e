use Rattle.onfi_audit.proofs.Logs.{complete_law}
use Rattle.onfi_audit.proofs.laws.legal_is_accepted.Goals as goal

pub returns : goal.returns
returns c = complete_law
