use Rattle.onfi_flight.proofs.Begins.{over_exactly, over_left}
use Rattle.onfi_flight.proofs.flight.Flight.is_done.Goals as goal

pub returns-clause-over : goal.returns-clause-over
returns-clause-over c = over_exactly c.args.self.now.left c.turn.result c.is_none.result c.is_none.ensures c.turn.ensures.turn

pub returns-clause-done : goal.returns-clause-done
returns-clause-done c = λ flight. over_left c.args.self.now c.turn.result c.is_none.result flight c.is_none.ensures c.turn.ensures.turn
