use Rattle.onfi_flight.proofs.Shifted.{shift_legal}
use Rattle.onfi_flight.proofs.laws.shifted_is_legal.Goals as goal

pub returns : goal.returns
returns c = shift_legal
