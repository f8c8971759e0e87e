use Rattle.std.proofs.Common.{refl}
use Rattle.onfi_schedule.proofs.Twos.{item_has}
use Rattle.onfi_schedule.proofs.turns.without_turn_among.Goals as goal

pub returns-then-is_some-clause-told : goal.returns-then-is_some-clause-told
returns-then-is_some-clause-told c = λ p s et two.
    let others = c.args.others.now in
    c.without_turn-breach.ensures.told p s et (two c.other-item.result (item_has others others c.loop-other.other-index c.other-item.result c.other-item.is c.loop-other-test.true refl))
