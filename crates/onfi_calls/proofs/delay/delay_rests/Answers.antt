use Rattle.onfi_calls.specs.Delay.{later_rest}
use Rattle.onfi_calls.specs.PlainSchedule.{no_rest}
use Rattle.onfi_calls.proofs.Filled.{filled_all, filled_more}
use Rattle.onfi_calls.proofs.delay.delay_rests.Goals as goal

pub loop-at-preserved : goal.loop-at-preserved
loop-at-preserved c = filled_more (later_rest c.args.by) 8 no_rest c.args.said.now c.loop-at.at _ c.delay_one.result c.loop-at.all c.loop-at-test.true c.requires.few c.delay_one.ensures c.loop-at.invariant

pub returns : goal.returns
returns c = filled_all (later_rest c.args.by) 8 no_rest c.args.said.now c.loop-at.at c.loop-at.all c.loop-at-test.false c.loop-at.invariant
