use Rattle.std.proofs.Common.{length, refl, sym, ap, subst, ◌∙◌}
use Rattle.onfi_timing.specs.Kinds.{operation_of}
use Rattle.onfi_request.specs.declared.answer.Answer.{Answer}
use Rattle.onfi_request.specs.declared.answer.Answer.TheVariants.{Read}
use Rattle.onfi_die.specs.Prepared.{IsAnswerTo}
use Rattle.onfi_die.specs.Shapes.{shape_of}
use Rattle.onfi_chip.specs.declared.post.Post.{Post}
use Rattle.onfi_chip.specs.declared.sim.SimChip.{SimChip}
use Rattle.onfi_chip.proofs.Parts.{as_many_bytes}
use Rattle.onfi_chip.proofs.SimCalls.{as_many, posts_there, post_done, is_read}
use Rattle.onfi_chip.proofs.sim.SimChip.put_out.Goals as goal

pub unreachable-requires : goal.unreachable-requires
unreachable-requires c =
    let old = c.args.self.now in
    let post = c.requires.next.0 in
    let left = c.requires.next.1 in
    let h = c.requires.next.2 in
    let place = c.place-place.ensures post.place h.in_range h.row_is in
    let told = c.post-post.ensures.taken post left h.ready (posts_there old c.args.now c.args.row post left c.place-place.result place h) in
    is_read (shape_of old.dies.geometry) c.post-post.result.kind c.post-post.result.answer (ap (λ (q : Post). operation_of q.kind) told.0 ∙ c.requires.next.3) c.post-post.ensures.form c.in_default.not-Read

pub copy_from_slice-requires : goal.copy_from_slice-requires
copy_from_slice-requires c =
    let old = c.args.self.now in
    let post = c.requires.next.0 in
    let left = c.requires.next.1 in
    let h = c.requires.next.2 in
    let place = c.place-place.ensures post.place h.in_range h.row_is in
    let told = c.post-post.ensures.taken post left h.ready (posts_there old c.args.now c.args.row post left c.place-place.result place h) in
    let form : IsAnswerTo (shape_of old.dies.geometry) post.kind (Read c.in-Read.bytes) =
    subst (λ (q : Post). IsAnswerTo (shape_of old.dies.geometry) q.kind (Read c.in-Read.bytes)) told.0
    (subst (λ (a : Answer). IsAnswerTo (shape_of old.dies.geometry) c.post-post.result.kind a) c.in-Read.is c.post-post.ensures.form) in
    c.requires.next.4 ∙ sym (as_many_bytes old.dies.geometry post.kind c.in-Read.bytes h.part c.requires.next.3 form) ∙ ap length (sym c.in-Read.bytes-is ∙ sym c.as_slice.ensures)

pub returns-clause-ok : goal.returns-clause-ok
returns-clause-ok c post left h =
    let old = c.args.self.now in
    let place = c.place-place.ensures post.place h.in_range h.row_is in
    let told = c.post-post.ensures.taken post left h.ready (posts_there old c.args.now c.args.row post left c.place-place.result place h) in
    let fine = c.count.ensures.fine c.if-count.false in
    let new : SimChip = record { dies = c.post-post.new.self; calls = c.count.new.self; statuses = old.statuses; arrays = old.arrays } in (
      ap (λ (q : Post). q.answer) (sym told.0) ∙ c.in-Read.is ∙ ap Read (sym c.in-Read.bytes-is ∙ sym (c.copy_from_slice.ensures.after ∙ c.as_slice.ensures)),
      post_done old new c.args.now post left c.place-place.result place told.1 (as_many old new fine refl),
    )
