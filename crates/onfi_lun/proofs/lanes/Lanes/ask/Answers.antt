use Rattle.std.proofs.Common.{◌≡◌, ◌<◌, length, Some, refl, sym, ap, subst, ◌∙◌, arith}
use Rattle.std.specs.Prelude.{slice_get, slice_set}
use Rattle.onfi_lun.specs.Lanes.{LanesAgree, OthersKept}
use Rattle.onfi_lun.proofs.Places.{get_of_or}
use Rattle.onfi_lun.proofs.LunMoves.{others_kept, poll_agrees}
use Rattle.onfi_lun.proofs.lanes.Lanes.ask.Goals as goal

pub returns-clause-agree : goal.returns-clause-agree
returns-clause-agree g c =
    let old = g.C.Chip.state c.args.chip.now in
    let within : c.from-at.result < length c.self.inside.luns.items = omega (arith, c.if-at-len.false, c.len.ensures) in
    let there : slice_get c.self.inside.luns.items c.from-at.result ≡ Some c.replace-lun.result = get_of_or c.self.inside.luns.items c.from-at.result c.replace-lun.result c.index_mut.result.now within (c.replace-lun.ensures.value ∙ c.index_mut.ensures.value) in
    poll_agrees c.poll-lun.result.1 old (g.C.Chip.state c.poll-lun.new.chip) c.args.now c.self.inside.luns.items c.from-at.result c.replace-lun.result c.replace-lun.new.dest c.poll-lun.result.0
    (subst (LanesAgree old) (sym c.self.view_is) c.requires.agree) there c.poll-lun.ensures.number c.poll-lun.ensures.ready c.poll-lun.ensures.busy c.poll-lun.ensures.there

pub returns-clause-in_array : goal.returns-clause-in_array
returns-clause-in_array g c said =
    let within : c.from-at.result < length c.self.inside.luns.items = omega (arith, c.if-at-len.false, c.len.ensures) in
    let there = get_of_or c.self.inside.luns.items c.from-at.result c.index.result.now c.index.result.now within c.index.ensures in
    let at : slice_get c.args.self.now c.args.lun ≡ Some c.index.result.now =
    sym (ap (λ ls. slice_get ls c.args.lun) c.self.view_is) ∙ sym (ap (λ n. slice_get c.self.inside.luns.items n) c.from-at.ensures) ∙ there in
    rw at (c.if-not-is_in_array.ensures.0 refl)

pub returns-clause-others : goal.returns-clause-others
returns-clause-others g c =
    subst (λ ls. OthersKept c.args.lun ls (slice_set (slice_set c.self.inside.luns.items c.from-at.result c.replace-lun.new.dest) c.from-at.result c.poll-lun.result.0)) c.self.view_is
    (others_kept c.self.inside.luns.items c.from-at.result c.args.lun c.replace-lun.new.dest c.poll-lun.result.0 c.from-at.ensures)
