use Rattle.std.proofs.Common.{rules}
use Rattle.onfi_reply.proofs.Steps.{forks}
use Rattle.onfi_reply.proofs.poster_seat.PosterSeat.make_inbox.Goals as goal

pub another-pass-requires-clause-rule : goal.another-pass-requires-clause-rule
another-pass-requires-clause-rule c = forks _ _ _ _ _ _ c.self.invariant.1 (search rules)
