use Rattle.std.proofs.Common.{List, inr, sym, ap, subst}
use Rattle.std.specs.Prelude.{IsBitSet}
use Rattle.onfi_chip.specs.declared.fault.PostFault.TheVariants.{Bus, NotReady}
use Rattle.onfi_chip.specs.declared.post.Post.{Post}
use Rattle.onfi_chip.specs.Calls.{HasDone, IsNextPost, TellsAnswer}
use Rattle.onfi_chip.specs.Chip.{posted}
use Rattle.onfi_record.proofs.Coming.{recorded_by, recorded_post}
use Rattle.onfi_record.proofs.recorder.RecorderChip.status.Goals as goal

pub invariant_of-self : goal.invariant_of-self
invariant_of-self g c =
    recorded_by c.self.inside.log (g.C.Chip.state c.self.inside.chip) (g.C.Chip.state c.status.new.self) c.self.invariant (inr (inr (Bus, c.in_err-byte.ensures.err.1)))

pub invariant_of-self-then-is_ready : goal.invariant_of-self-then-is_ready
invariant_of-self-then-is_ready g c =
    let is = ap (λ v. g.C.Chip.state v.1) c.self.view_is in
    let n = c.requires in
    let next = subst (λ chip. IsNextPost chip c.args.now c.args.row n.0 n.1) (sym is) n.2 in
    let bit = c.is_ready.ensures.ready c.if-is_ready.true in
    recorded_post c.self.inside.log c.post.new.self (g.C.Chip.state c.self.inside.chip) (g.C.Chip.state c.status.new.self) c.args.now c.args.row n.0 n.1
    c.post.ensures.same c.self.invariant next (c.in_ok-byte.ensures.ready bit n.0 n.1 next).1 c.post.ensures.more

pub invariant_of-self-else-is_ready : goal.invariant_of-self-else-is_ready
invariant_of-self-else-is_ready g c =
    let busy = c.is_ready.ensures.busy c.if-is_ready.false in
    recorded_by c.self.inside.log (g.C.Chip.state c.self.inside.chip) (g.C.Chip.state c.status.new.self) c.self.invariant (inr (inr (NotReady, c.in_ok-byte.ensures.not_ready busy)))

pub returns-then-is_ready-clause-ready : goal.returns-then-is_ready-clause-ready
returns-then-is_ready-clause-ready g c =
    let is = ap (λ v. g.C.Chip.state v.1) c.self.view_is in
    subst
    (λ chip. IsBitSet c.in_ok-byte.byte 6 → (post : Post) (left : List Post) → IsNextPost chip c.args.now c.args.row post left
    → TellsAnswer c.in_ok-byte.byte post.answer × HasDone (posted chip post left c.args.now) (g.C.Chip.state c.status.new.self))
    is c.in_ok-byte.ensures.ready
