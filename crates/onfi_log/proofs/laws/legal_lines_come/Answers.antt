use Rattle.onfi_log.proofs.Coming.{comes_law}
use Rattle.onfi_log.proofs.laws.legal_lines_come.Goals as goal

pub returns : goal.returns
returns c = comes_law
