use Rattle.onfi_flight.proofs.Stays.{done_stays}
use Rattle.onfi_flight.proofs.laws.done_stays_legal.Goals as goal

pub returns : goal.returns
returns c = done_stays
