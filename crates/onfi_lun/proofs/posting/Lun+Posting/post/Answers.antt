use Rattle.std.proofs.Common.{◌≡◌, ◌+◌, ap, subst, ◌∙◌}
use Rattle.onfi_timing.specs.declared.kind.Kind.{Kind}
use Rattle.onfi_timing.specs.declared.spans.Spans.{Spans}
use Rattle.onfi_timing.specs.Kinds.{spans_of}
use Rattle.onfi_lun.specs.declared.states.Posting.{Posting as InPosts}
use Rattle.onfi_lun.specs.Phases.{OthersStay, IsBehind}
use Rattle.onfi_lun.proofs.Phases.{next_post, post_others, post_made}
use Rattle.onfi_lun.proofs.posting.Lun+Posting.post.Goals as goal

pub read-requires-clause-next : goal.read-requires-clause-next
read-requires-clause-next g c =
    let post = c.requires.due.0 in
    let left = c.requires.due.1 in
    let h = c.requires.due.2 in
    (post, left, record { kind = h.kind; next = next_post c.args.target.now (g.C.Chip.state c.args.chip.now) c.args.self c.args.now c.args.fetch post left c.requires.device h })

pub returns-in-Ok-clause-done : goal.returns-in-Ok-clause-done
returns-in-Ok-clause-done g c post left h = c.in-Ok.ensures.done post left (next_post c.args.target.now (g.C.Chip.state c.args.chip.now) c.args.self c.args.now c.args.fetch post left c.requires.device h)

pub returns-in-Ok-clause-answer : goal.returns-in-Ok-clause-answer
returns-in-Ok-clause-answer g c post left h = c.in-Ok.ensures.answer post left (next_post c.args.target.now (g.C.Chip.state c.args.chip.now) c.args.self c.args.now c.args.fetch post left c.requires.device h)

pub returns-in-Ok-clause-posted : goal.returns-in-Ok-clause-posted
returns-in-Ok-clause-posted g c post left h =
    let old = g.C.Chip.state c.args.chip.now in
    let new = g.C.Chip.state c.read.new.chip in
    let done = c.in-Ok.ensures.done post left (next_post c.args.target.now old c.args.self c.args.now c.args.fetch post left c.requires.device h) in
    let time : c.args.now + c.spans.result.post ≡ c.args.now + (spans_of c.args.target.now.timing c.args.fetch.kind).post =
    ap (λ (s : Spans). c.args.now + s.post) c.spans.ensures ∙ ap (λ (k : Kind). c.args.now + (spans_of c.args.target.now.timing k).post) c.kind.ensures in
    let made : IsBehind c.args.self.number c.args.self.state.left (c.args.now + c.spans.result.post) c.after_post.result =
    subst (λ n. IsBehind n c.args.self.state.left (c.args.now + c.spans.result.post) c.after_post.result) c.number.ensures
    (subst (λ n. IsBehind c.number.result n (c.args.now + c.spans.result.post) c.after_post.result) (ap (λ (s : InPosts). s.left) c.state.ensures) c.after_post.ensures) in
    post_made c.args.target.now old new c.args.self c.args.now _ c.args.fetch post left c.after_post.result c.requires.device h done time made

pub returns-in-Ok-clause-others : goal.returns-in-Ok-clause-others
returns-in-Ok-clause-others g c =
    let old = g.C.Chip.state c.args.chip.now in
    let new = g.C.Chip.state c.read.new.chip in
    let post = c.requires.due.0 in
    let left = c.requires.due.1 in
    let h = c.requires.due.2 in
    let done = c.in-Ok.ensures.done post left (next_post c.args.target.now old c.args.self c.args.now c.args.fetch post left c.requires.device h) in
    subst (λ n. OthersStay n old new) h.lun_is (post_others old new post left c.args.now done)

pub returns-in-Ok-clause-made : goal.returns-in-Ok-clause-made
returns-in-Ok-clause-made g c =
    let time : c.args.now + c.spans.result.post ≡ c.args.now + (spans_of c.args.target.now.timing c.args.fetch.kind).post =
    ap (λ (s : Spans). c.args.now + s.post) c.spans.ensures ∙ ap (λ (k : Kind). c.args.now + (spans_of c.args.target.now.timing k).post) c.kind.ensures in
    subst (λ t. IsBehind c.args.self.number c.args.self.state.left t c.after_post.result) time
    (subst (λ n. IsBehind n c.args.self.state.left (c.args.now + c.spans.result.post) c.after_post.result) c.number.ensures
    (subst (λ n. IsBehind c.number.result n (c.args.now + c.spans.result.post) c.after_post.result) (ap (λ (s : InPosts). s.left) c.state.ensures) c.after_post.ensures))
