use Rattle.onfi_calls.specs.Ran.{no_want}
use Rattle.onfi_calls.specs.PlainSchedule.{written_want}
use Rattle.onfi_calls.proofs.Filled.{filled_more, filled_all}
use Rattle.onfi_calls.proofs.ran.plain_members.Goals as goal

pub loop-at-preserved : goal.loop-at-preserved
loop-at-preserved c = filled_more written_want 4 no_want c.args.wants.now c.loop-at.at _ c.plain_want.result c.loop-at.all c.loop-at-test.true c.requires c.plain_want.ensures c.loop-at.invariant

pub returns : goal.returns
returns c = filled_all written_want 4 no_want c.args.wants.now c.loop-at.at c.loop-at.all c.loop-at-test.false c.loop-at.invariant
