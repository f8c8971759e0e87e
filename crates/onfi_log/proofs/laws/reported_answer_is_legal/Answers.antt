use Rattle.onfi_log.proofs.LegalLogs.{reported_law}
use Rattle.onfi_log.proofs.laws.reported_answer_is_legal.Goals as goal

pub returns : goal.returns
returns c = reported_law
