use Rattle.std.proofs.Common.{◌≤◌, length, sym, subst, arith}
use Rattle.onfi_addr.specs.declared.place.Place.{Place}
use Rattle.onfi_addr.specs.Rows.{row_of}
use Rattle.onfi_chip.specs.Calls.{IsNextPost}
use Rattle.onfi_lun.proofs.LunMoves.{post_of}
use Rattle.onfi_lun.proofs.lanes.Lanes.run_due.Goals as goal

pub post-requires-clause-next : goal.post-requires-clause-next
post-requires-clause-next g c =
    let le : length c.args.due.now.group ≤ c.args.due.now.phase = omega (arith, c.if-from-len.false, c.len.ensures.value, c.from.ensures) in
    post_of c.args.target.now (g.C.Chip.state c.args.chip.now) c.args.due.now c.args.item.now c.in-Ok-of.fetch c.requires.due le c.in-Ok-of.ensures.kind c.in-Ok-of.ensures.place

pub returns-in-Ok-post-clause-ran : goal.returns-in-Ok-post-clause-ran
returns-in-Ok-post-clause-ran g c =
    let le : length c.args.due.now.group ≤ c.args.due.now.phase = omega (arith, c.if-from-len.false, c.len.ensures.value, c.from.ensures) in (
      le,
      λ post left next.
          let next' = subst (λ (p : Place). IsNextPost (g.C.Chip.state c.args.chip.now) c.args.due.now.start (row_of c.args.target.now.geometry p) post left) (sym c.in-Ok-of.ensures.place) next in
          (c.in-Ok-post.ensures.answer post left next', c.in-Ok-post.ensures.done post left next'),
    )
