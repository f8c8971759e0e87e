use Rattle.std.proofs.Common.{rules}
use Rattle.onfi_reply.proofs.Steps.{posts, poster_learns}
use Rattle.onfi_reply.proofs.poster_seat.PosterSeat.post.Goals as goal

pub push_as-requires-clause-rule : goal.push_as-requires-clause-rule
push_as-requires-clause-rule g c = (posts _ _ _ _ _ _ _ _ c.self.invariant.1 (search rules), poster_learns _ _ _ _ _ _ c.self.invariant.1)
