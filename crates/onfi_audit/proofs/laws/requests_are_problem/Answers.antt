use Rattle.onfi_audit.proofs.Logs.{open_law}
use Rattle.onfi_audit.proofs.laws.requests_are_problem.Goals as goal

pub returns : goal.returns
returns c = open_law
