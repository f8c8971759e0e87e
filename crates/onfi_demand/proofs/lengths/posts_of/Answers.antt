use Rattle.std.proofs.Common.{◌≡◌, ◌-◌, ap, get_or, ◌∙◌, arith}
use Rattle.onfi_demand.specs.Remaining.{post_of}
use Rattle.onfi_demand.proofs.Posts.{posts_are}
use Rattle.onfi_demand.proofs.lengths.posts_of.Goals as goal

pub returns-clause-posts : goal.returns-clause-posts
returns-clause-posts c =
    let over : c.saturating_sub-over.result ≡ c.args.next - c.args.members = c.saturating_sub-over.ensures in
    posts_are c.args.timing.now c.args.operation c.args.members c.args.next c.args.sectors.now c.loop-at.posts c.requires c.told-sectors c.loop-at.invariant.long (λ i h. c.loop-at.invariant.before i (omega arith)) (λ i h k. c.loop-at.invariant.left i (omega arith) (omega arith) ∙ ap (λ o. post_of c.args.timing.now c.args.operation (get_or c.args.sectors.now (i - o) 0)) over)
