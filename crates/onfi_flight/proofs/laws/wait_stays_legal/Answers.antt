use Rattle.onfi_flight.proofs.Stays.{wait_stays}
use Rattle.onfi_flight.proofs.laws.wait_stays_legal.Goals as goal

pub returns : goal.returns
returns c = wait_stays
