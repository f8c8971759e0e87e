use Rattle.onfi_log.proofs.LegalLogs.{legal_law}
use Rattle.onfi_log.proofs.laws.legal_answer_is_legal.Goals as goal

pub returns : goal.returns
returns c = legal_law
