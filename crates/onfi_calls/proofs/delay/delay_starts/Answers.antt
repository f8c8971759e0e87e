use Rattle.std.proofs.Common.{◌+◌, refl}
use Rattle.onfi_calls.proofs.Filled.{filled_all, filled_more}
use Rattle.onfi_calls.proofs.delay.delay_starts.Goals as goal

pub loop-at-preserved : goal.loop-at-preserved
loop-at-preserved c = filled_more (λ t. t + c.args.by) 8 0 c.args.starts.now c.loop-at.at _ _ c.loop-at.all c.loop-at-test.true c.requires.few refl c.loop-at.invariant

pub returns : goal.returns
returns c = filled_all (λ t. t + c.args.by) 8 0 c.args.starts.now c.loop-at.at c.loop-at.all c.loop-at-test.false c.loop-at.invariant
