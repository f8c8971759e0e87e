use Rattle.std.proofs.Common.{◌+◌, List, inl, refl, subst, sym}
use Rattle.onfi_schedule.specs.declared.slot.Slot.{Slot}
use Rattle.onfi_schedule.specs.Names.{Named}
use Rattle.onfi_schedule.specs.Slots.{named_slot}
use Rattle.onfi_schedule.specs.Tells.{ArePair}
use Rattle.onfi_schedule.proofs.Twos.{has_taken, pair_at, pair_mapped}
use Rattle.onfi_schedule.proofs.bus.overlap.Goals as goal

pub returns-in-Some-clause-told : goal.returns-in-Some-clause-told
returns-in-Some-clause-told c = λ p s e.
    let slots = c.args.slots.now in
    let at = c.loop-at.at in
    let slot = c.index-slots-at.result in
    let other = c.in-Some.other in
    let pair : ArePair slots slot other =
    subst (λ (z : Slot). ArePair slots z other) (sym c.index-slots-at.is) (pair_at slots at (at + 1) slot other refl c.loop-at-test.true (has_taken _ _ other c.in-Some.ensures.there)) in
    c.report_overlap.ensures.told p s (inl (subst (λ (xs : List Named). ArePair xs (named_slot slot) (named_slot other)) (sym e) (pair_mapped named_slot slots slot other pair)))
