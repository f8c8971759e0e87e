use Rattle.onfi_queue.proofs.Steps.{forks}
use Rattle.onfi_queue.proofs.seat.Seat.make_host.Goals as goal

pub another-pass-requires-clause-rule : goal.another-pass-requires-clause-rule
another-pass-requires-clause-rule c = forks _ _ _ _ _ _ c.self.invariant.1
