use Rattle.onfi_cert.proofs.Whole.{read_again}
use Rattle.onfi_cert.proofs.laws.read_back.Goals as goal

pub returns : goal.returns
returns c = read_again
