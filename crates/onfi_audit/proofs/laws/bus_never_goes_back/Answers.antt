use Rattle.onfi_audit.proofs.Bus.{bus_law}
use Rattle.onfi_audit.proofs.laws.bus_never_goes_back.Goals as goal

pub returns : goal.returns
returns c = bus_law
