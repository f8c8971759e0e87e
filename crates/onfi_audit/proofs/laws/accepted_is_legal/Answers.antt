use Rattle.onfi_audit.proofs.Logs.{sound_law}
use Rattle.onfi_audit.proofs.laws.accepted_is_legal.Goals as goal

pub returns : goal.returns
returns c = sound_law
