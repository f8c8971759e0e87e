use Rattle.std.proofs.Common.{sym, ap, ◌∙◌}
use Rattle.std.proofs.lemmas.Bool.{true≢false}
use Rattle.onfi_schedule.specs.Slots.{phases_in, named_in}
use Rattle.onfi_schedule.proofs.Telling.{outlasts}
use Rattle.onfi_schedule.proofs.block_order.end_and_start.Goals as goal

pub returns-clause-none : goal.returns-clause-none
returns-clause-none c =
    let n = rw (c.as_slice.ensures.value, c.as_slice-2.ensures.value, c.slots_of-earlier.ensures.phases, c.slots_of-later.ensures.phases) at c.are_before.ensures in
    ((λ z. absurd (true≢false z)), (λ b. absurd (true≢false (sym (n.1 b) ∙ c.if-are_before.false))))

pub returns-clause-told : goal.returns-clause-told
returns-clause-told c =
    let n = rw (c.as_slice.ensures.value, c.as_slice-2.ensures.value, c.slots_of-earlier.ensures.phases, c.slots_of-later.ensures.phases) at c.are_before.ensures in
    rw c.latest.ensures (outlasts c.args.timing.now c.args.group.now c.args.other.now c.as_slice-4.result.now c.as_slice-3.result.now c.first_slot-start.result
    (ap phases_in c.as_slice-4.ensures.value ∙ c.slots_of-earlier.ensures.phases) (ap phases_in c.as_slice-3.ensures.value ∙ c.slots_of-later.ensures.phases)
    (ap named_in c.as_slice-3.ensures.value ∙ c.slots_of-later.ensures.named) (λ b. true≢false (sym (n.1 b) ∙ c.if-are_before.false)) c.first_slot-start.ensures)
