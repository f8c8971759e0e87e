use Rattle.onfi_group.proofs.Lists.{Has-get}
use Rattle.onfi_schedule.proofs.block_order.out_of_order_among.Goals as goal

pub returns-then-is_some-clause-told : goal.returns-then-is_some-clause-told
returns-then-is_some-clause-told c = λ p s et eg pairs.
    c.out_of_order-breach.ensures.told p s et eg (pairs _ (Has-get c.args.later.now c.loop-other.other-index _ c.loop-other-test.true))
