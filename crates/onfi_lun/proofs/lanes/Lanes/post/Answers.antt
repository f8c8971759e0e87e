use Rattle.std.proofs.Common.{◌≡◌, ◌<◌, length, Some, sym, ap, subst, ◌∙◌, arith}
use Rattle.std.specs.Prelude.{slice_get, slice_set}
use Rattle.onfi_addr.specs.declared.place.Place.{Place}
use Rattle.onfi_addr.specs.Rows.{row_of}
use Rattle.onfi_problem.proofs.Places.{within_get}
use Rattle.onfi_lun.specs.Lanes.{LanesAgree, OthersKept}
use Rattle.onfi_lun.proofs.Places.{get_of_or}
use Rattle.onfi_lun.proofs.LunMoves.{others_kept, post_agrees}
use Rattle.onfi_lun.proofs.lanes.Lanes.post.Goals as goal

pub returns-clause-agree : goal.returns-clause-agree
returns-clause-agree g c =
    let old = g.C.Chip.state c.args.chip.now in
    let new = g.C.Chip.state c.post-lun.new.chip in
    let next = c.requires.next.2 in
    let within : c.from-at.result < length c.self.inside.luns.items =
    (let k = within_get old.luns c.requires.next.0.place.lun _ next.fetch_is.next.there in let l = ap (λ (p : Place). p.lun) next.place ∙ c.requires.lun in let n = c.requires.agree.count in let v = ap length c.self.view_is in let a = c.from-at.ensures in omega (arith, k, l, n, v, a)) in
    let there : slice_get c.self.inside.luns.items c.from-at.result ≡ Some c.replace-lun.result = get_of_or c.self.inside.luns.items c.from-at.result c.replace-lun.result c.index_mut.result.now within (c.replace-lun.ensures.value ∙ c.index_mut.ensures.value) in
    post_agrees c.post-lun.result.1 old new c.args.due.now.start (row_of c.args.target.now.geometry c.args.fetch.place) c.requires.next.0 c.requires.next.1 c.self.inside.luns.items c.from-at.result c.replace-lun.result c.replace-lun.new.dest c.post-lun.result.0
    (subst (LanesAgree old) (sym c.self.view_is) c.requires.agree) there c.post-lun.ensures.number next.fetch_is.next c.post-lun.ensures.done c.post-lun.ensures.there c.post-lun.ensures.others

pub returns-clause-others : goal.returns-clause-others
returns-clause-others g c =
    subst (λ ls. OthersKept c.args.due.now.lun ls (slice_set (slice_set c.self.inside.luns.items c.from-at.result c.replace-lun.new.dest) c.from-at.result c.post-lun.result.0)) c.self.view_is
    (others_kept c.self.inside.luns.items c.from-at.result c.args.due.now.lun c.replace-lun.new.dest c.post-lun.result.0 c.from-at.ensures)
