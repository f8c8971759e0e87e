use Rattle.onfi_queue.proofs.Steps.{intake_learns}
use Rattle.onfi_queue.proofs.seat.Seat.settle.Goals as goal

pub learn_as-requires-clause-rule : goal.learn_as-requires-clause-rule
learn_as-requires-clause-rule c = intake_learns _ _ _ _ _ _ c.self.invariant.1
