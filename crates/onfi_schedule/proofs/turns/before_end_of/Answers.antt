use Rattle.std.proofs.Common.{sym, ap, ◌∙◌}
use Rattle.std.proofs.lemmas.Bool.{true≢false}
use Rattle.onfi_schedule.specs.Slots.{phases_in, named_in}
use Rattle.onfi_schedule.proofs.Telling.{starts_before_left}
use Rattle.onfi_schedule.proofs.turns.before_end_of.Goals as goal

pub returns-clause-none : goal.returns-clause-none
returns-clause-none c =
    let n = rw (c.as_slice.ensures.value, c.as_slice-2.ensures.value, c.left_slots-left.ensures, c.slots_of-own.ensures.phases, c.lun.ensures, c.members.ensures) at c.are_before.ensures in
    ((λ z. absurd (true≢false z)), (λ b. absurd (true≢false (sym (n.1 b) ∙ c.if-are_before.false))))

pub returns-clause-told : goal.returns-clause-told
returns-clause-told c = λ p s et there runs given.
    let n = rw (c.as_slice.ensures.value, c.as_slice-2.ensures.value, c.left_slots-left.ensures, c.slots_of-own.ensures.phases, c.lun.ensures, c.members.ensures) at c.are_before.ensures in
    let leftover = rw (c.lun.ensures, c.members.ensures) at c.left_slots-left.ensures in
    starts_before_left p s c.args.timing.now c.args.group.now _ c.args.starts.now c.as_slice-3.result.now c.as_slice-4.result.now _ et there runs given
    (ap named_in c.as_slice-3.ensures.value ∙ c.slots_of-own.ensures.named) (ap phases_in c.as_slice-3.ensures.value ∙ c.slots_of-own.ensures.phases)
    (ap phases_in c.as_slice-4.ensures.value ∙ leftover) (λ b. true≢false (sym (n.1 b) ∙ c.if-are_before.false)) c.running_left.ensures.told
