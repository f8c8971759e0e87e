use Rattle.onfi_flight.proofs.Stays.{late_stays}
use Rattle.onfi_flight.proofs.laws.late_stays_legal.Goals as goal

pub returns : goal.returns
returns c = late_stays
