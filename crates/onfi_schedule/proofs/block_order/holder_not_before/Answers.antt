use Rattle.std.proofs.Common.{List, refl, subst, ◌∙◌}
use Rattle.onfi_request.specs.declared.want.Want.{Want}
use Rattle.onfi_group.specs.Words.{Has}
use Rattle.onfi_schedule.proofs.Found.{if_some}
use Rattle.onfi_schedule.proofs.Twos.{item_has}
use Rattle.onfi_schedule.proofs.block_order.holder_not_before.Goals as goal

pub returns-then-is_some-clause-told : goal.returns-then-is_some-clause-told
returns-then-is_some-clause-told c =
    let groups = c.args.groups.now in
    let group = c.group-item.result in
    let here = item_has groups groups c.loop-group.group-index group c.group-item.is c.loop-group-test.true refl in
    let holds = subst (λ (ms : List Want). Has ms c.args.first.now) (c.members-in-loop-group.ensures.value ∙ c.members.ensures) (c.holds.ensures.0 c.if-holds.true) in
    if_some c.group_not_before-times.result _ _ (λ t o. (group, o.0, here, o.1, holds, o.2, o.3)) c.group_not_before-times.ensures.told
