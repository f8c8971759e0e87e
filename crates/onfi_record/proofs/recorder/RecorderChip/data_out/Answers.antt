use Rattle.std.proofs.Common.{◌≡◌, List, inl, inr, sym, ap, subst}
use Rattle.onfi_request.specs.declared.answer.Answer.TheVariants.{Read}
use Rattle.onfi_chip.specs.declared.fault.PostFault.TheVariants.{Bus}
use Rattle.onfi_chip.specs.declared.post.Post.{Post}
use Rattle.onfi_chip.specs.Calls.{HasDone, IsNextPost}
use Rattle.onfi_chip.specs.Chip.{posted}
use Rattle.onfi_record.proofs.Coming.{recorded_by, recorded_post, unread_goes}
use Rattle.onfi_record.proofs.recorder.RecorderChip.data_out.Goals as goal

pub invariant_of-self : goal.invariant_of-self
invariant_of-self g c =
    recorded_by c.self.inside.log (g.C.Chip.state c.self.inside.chip) (g.C.Chip.state c.data_out.new.self) c.self.invariant (unread_goes _ _ (inr c.in_err-data_out.ensures.err.1))

pub invariant_of-self-2 : goal.invariant_of-self-2
invariant_of-self-2 g c =
    let is = ap (λ v. g.C.Chip.state v.1) c.self.view_is in
    let n = c.requires.next in
    let next = subst (λ chip. IsNextPost chip c.args.now c.args.row n.0 n.1) (sym is) n.2 in
    recorded_post c.self.inside.log c.post.new.self (g.C.Chip.state c.self.inside.chip) (g.C.Chip.state c.data_out.new.self) c.args.now c.args.row n.0 n.1
    c.post.ensures.same c.self.invariant next (c.in_ok-data_out.ensures.ok n.0 n.1 next).1 c.post.ensures.more

pub returns-clause-ok : goal.returns-clause-ok
returns-clause-ok g c =
    let is = ap (λ v. g.C.Chip.state v.1) c.self.view_is in
    subst (λ chip. (post : Post) (left : List Post) → IsNextPost chip c.args.now c.args.row post left → (post.answer ≡ Read c.data_out.new.out) × HasDone (posted chip post left c.args.now) (g.C.Chip.state c.data_out.new.self))
    is c.in_ok-data_out.ensures.ok
