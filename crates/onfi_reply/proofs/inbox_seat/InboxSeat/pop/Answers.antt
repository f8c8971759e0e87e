use Rattle.onfi_reply.proofs.Steps.{pops, inbox_learns}
use Rattle.onfi_reply.proofs.inbox_seat.InboxSeat.pop.Goals as goal

pub pop_as-requires-clause-rule : goal.pop_as-requires-clause-rule
pop_as-requires-clause-rule g c = (pops _ _ _ _ c.self.invariant.1, inbox_learns _ _ _ _ c.self.invariant.1)
