use Rattle.onfi_queue.proofs.Steps.{takes, intake_learns}
use Rattle.onfi_queue.proofs.seat.Seat.accept.Goals as goal

pub pop_as-requires-clause-rule : goal.pop_as-requires-clause-rule
pop_as-requires-clause-rule g c = (takes _ _ _ _ _ _ c.self.invariant.1, intake_learns _ _ _ _ _ _ c.self.invariant.1)
