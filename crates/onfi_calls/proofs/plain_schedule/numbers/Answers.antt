use Rattle.std.proofs.Common.{refl}
use Rattle.onfi_calls.proofs.Filled.{filled_more, filled_all}
use Rattle.onfi_calls.proofs.plain_schedule.numbers.Goals as goal

pub loop-at-preserved : goal.loop-at-preserved
loop-at-preserved c = filled_more (λ w. w.id) 4 0 c.args.wants.now c.loop-at.at _ _ c.loop-at.all c.loop-at-test.true c.requires refl c.loop-at.invariant

pub returns : goal.returns
returns c = filled_all (λ w. w.id) 4 0 c.args.wants.now c.loop-at.at c.loop-at.all c.loop-at-test.false c.loop-at.invariant
