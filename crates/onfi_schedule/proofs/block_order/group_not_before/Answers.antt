use Rattle.std.proofs.Common.{List, refl, subst, ◌∙◌}
use Rattle.onfi_request.specs.declared.want.Want.{Want}
use Rattle.onfi_group.specs.Words.{Has}
use Rattle.onfi_schedule.proofs.Found.{if_some}
use Rattle.onfi_schedule.proofs.Twos.{item_has}
use Rattle.onfi_schedule.proofs.block_order.group_not_before.Goals as goal

pub returns-then-is_some-clause-told : goal.returns-then-is_some-clause-told
returns-then-is_some-clause-told c =
    let groups = c.args.groups.now in
    let other = c.other-item.result in
    let here = item_has groups groups c.loop-other.other-index other c.other-item.is c.loop-other-test.true refl in
    let holds = subst (λ (ms : List Want). Has ms c.args.want.now) (c.members-in-loop-other.ensures.value ∙ c.members.ensures) (c.holds.ensures.0 c.if-holds.true) in
    if_some c.end_and_start-times.result _ _ (λ t o. (other, here, holds, o)) c.end_and_start-times.ensures.told
