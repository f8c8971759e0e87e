use Rattle.onfi_timing.proofs.Posts.{Stating}
use Rattle.onfi_timing.proofs.timing.Timing.with_posts.Given as goal

abbrev pub invariant-loop-before : goal.invariant-loop-before
invariant-loop-before l = Stating l.fn.self l.timing l.posts l.before
