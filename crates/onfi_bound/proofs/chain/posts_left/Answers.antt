use Rattle.std.proofs.Common.{sym, ap, ◌∙◌}
use Rattle.onfi_timing.specs.Kinds.{spans_of}
use Rattle.onfi_bound.proofs.GroupPosts.{only_post}
use Rattle.onfi_bound.proofs.chain.posts_left.Goals as goal

pub returns-then-next-le1-clause-value : goal.returns-then-next-le1-clause-value
returns-then-next-le1-clause-value c =
    let spans = c.spans.ensures ∙ ap (spans_of c.args.timing.now) c.kind.ensures in
    ap (λ z. z.post) spans ∙ sym (only_post c.args.timing.now c.args.group.now c.args.next (sym c.len.ensures.value ∙ c.if-len-eq1.true) c.if-next-le1.true)
