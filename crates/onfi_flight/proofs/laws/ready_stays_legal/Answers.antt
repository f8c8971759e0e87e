use Rattle.onfi_flight.proofs.Stays.{ready_stays}
use Rattle.onfi_flight.proofs.laws.ready_stays_legal.Goals as goal

pub returns : goal.returns
returns c = ready_stays
