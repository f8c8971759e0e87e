use Rattle.std.proofs.Common.{rules}
use Rattle.onfi_queue.proofs.Steps.{merges}
use Rattle.onfi_queue.proofs.seat.Seat.take_back.Goals as goal

pub absorb-requires-clause-rule : goal.absorb-requires-clause-rule
absorb-requires-clause-rule c = merges _ _ _ _ _ _ _ _ _ _ _ c.self.invariant.1 c.host.invariant.1 (search rules)
