use Rattle.std.proofs.Common.{◌≡◌, ◌<◌, length, Some, refl, sym, ap, ◌∙◌, arith}
use Rattle.std.specs.Prelude.{slice_get}
use Rattle.onfi_lun.proofs.Places.{get_of_or}
use Rattle.onfi_lun.proofs.lanes.Lanes.poll.Goals as goal

pub returns-clause-works : goal.returns-clause-works
returns-clause-works g c said =
    let within : c.from-at.result < length c.self.inside.luns.items = omega (arith, c.if-at-len.false, c.len.ensures) in
    let there = get_of_or c.self.inside.luns.items c.from-at.result c.index.result.now c.index.result.now within c.index.ensures in
    let at : slice_get c.args.self.now c.args.lun ≡ Some c.index.result.now =
    sym (ap (λ ls. slice_get ls c.args.lun) c.self.view_is) ∙ sym (ap (λ n. slice_get c.self.inside.luns.items n) c.from-at.ensures) ∙ there in
    rw at (c.if-not-works.ensures.0 refl)
