use Rattle.std.proofs.Common.{◌≡◌, inl, inr, refl, sym, ap, ◌∙◌, arith}
use Rattle.std.proofs.lemmas.Bool.{true≢false}
use Rattle.onfi_group.specs.Group.{lun_of}
use Rattle.onfi_schedule.specs.Slots.{phases_in, named_slot, named_in}
use Rattle.onfi_schedule.proofs.Twos.{exchanged}
use Rattle.onfi_schedule.proofs.Telling.{takes_lun}
use Rattle.onfi_schedule.proofs.turns.without_turn.Goals as goal

pub returns-then-are_apart-clause-none : goal.returns-then-are_apart-clause-none
returns-then-are_apart-clause-none c =
    let n = rw (c.as_slice-one.ensures.value, c.as_slice-two.ensures.value, c.slots_of-one.ensures.phases, c.slots_of-two.ensures.phases) at c.are_apart.ensures in
    ((λ z same. n.0 c.if-are_apart.true), (λ h. refl))

pub returns-then-first_slot-clause-told : goal.returns-then-first_slot-clause-told
returns-then-first_slot-clause-told c = λ p s et two.
    let same : lun_of c.args.other.now.members ≡ lun_of c.args.group.now.members = cc in
    let one_named = ap named_in c.as_slice-one.ensures.value ∙ c.slots_of-one.ensures.named in
    let one_phases = ap phases_in c.as_slice-one.ensures.value ∙ c.slots_of-one.ensures.phases in
    let two_named = ap named_in c.as_slice-two.ensures.value ∙ c.slots_of-two.ensures.named in
    takes_lun p s c.args.timing.now c.args.other.now c.args.group.now c.as_slice-two.result.now c.as_slice-one.result.now _ (named_slot c.first_slot-2.result) (named_slot c.first_slot.result) _
    et (exchanged s.groups c.args.group.now c.args.other.now two) same two_named one_named one_phases (sym c.first_request.ensures)
    (λ b. true≢false (sym (c.are_apart.ensures.1 (inl b)) ∙ c.if-are_apart.false)) c.first_slot-2.ensures c.first_slot.ensures (omega (arith, c.if-first_slot.true)) c.report_taken_lun.ensures.told

pub returns-clause-told : goal.returns-clause-told
returns-clause-told c = λ p s et two.
    let same : lun_of c.args.group.now.members ≡ lun_of c.args.other.now.members = cc in
    let one_named = ap named_in c.as_slice-one.ensures.value ∙ c.slots_of-one.ensures.named in
    let two_phases = ap phases_in c.as_slice-two.ensures.value ∙ c.slots_of-two.ensures.phases in
    let two_named = ap named_in c.as_slice-two.ensures.value ∙ c.slots_of-two.ensures.named in
    takes_lun p s c.args.timing.now c.args.group.now c.args.other.now c.as_slice-one.result.now c.as_slice-two.result.now _ (named_slot c.first_slot.result) (named_slot c.first_slot-2.result) _
    et two same one_named two_named two_phases (sym c.first_request-2.ensures)
    (λ b. true≢false (sym (c.are_apart.ensures.1 (inr b)) ∙ c.if-are_apart.false)) c.first_slot.ensures c.first_slot-2.ensures c.if-first_slot.false c.report_taken_lun-2.ensures.told

pub returns-then-first_slot-clause-none : goal.returns-then-first_slot-clause-none
returns-then-first_slot-clause-none c =
    let n = rw (c.as_slice-one.ensures.value, c.as_slice-two.ensures.value, c.slots_of-one.ensures.phases, c.slots_of-two.ensures.phases) at c.are_apart.ensures in
    let same : lun_of c.args.group.now.members ≡ lun_of c.args.other.now.members = cc in
    ((λ z. absurd (true≢false z)), (λ h. absurd (true≢false (sym (n.1 (h same)) ∙ c.if-are_apart.false))))
