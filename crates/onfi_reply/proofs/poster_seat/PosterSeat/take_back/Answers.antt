use Rattle.onfi_reply.proofs.Steps.{merges, merged_learns}
use Rattle.onfi_reply.proofs.poster_seat.PosterSeat.take_back.Goals as goal

pub absorb-requires-clause-rule : goal.absorb-requires-clause-rule
absorb-requires-clause-rule c = merges _ _ _ _ _ _ _ _ _ _ c.self.invariant.1 c.inbox.invariant.1

pub learn_as-requires-clause-rule : goal.learn_as-requires-clause-rule
learn_as-requires-clause-rule c = merged_learns _ _ _ _ _ _ _ _ _ _ c.absorb.ensures.rule c.self.invariant.1 c.inbox.invariant.1
