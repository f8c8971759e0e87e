use Rattle.onfi_flight.proofs.Shifted.{ready_legal}
use Rattle.onfi_flight.proofs.laws.ready_is_legal.Goals as goal

pub returns : goal.returns
returns c = ready_legal
