use Rattle.onfi_flight.proofs.Stays.{idle_stays}
use Rattle.onfi_flight.proofs.laws.idle_is_legal.Goals as goal

pub returns : goal.returns
returns c = idle_stays
