use Rattle.onfi_schedule.proofs.Twos.{item_has}
use Rattle.onfi_schedule.proofs.turns.running_not_over.Goals as goal

pub returns-then-is_some-clause-told : goal.returns-then-is_some-clause-told
returns-then-is_some-clause-told c = λ p s et el er eg.
    let here = item_has c.args.groups.now s.groups c.loop-group.group-index c.group-item.result c.group-item.is c.loop-group-test.true eg in
    c.before_left-breach.ensures.told p s et el er here
