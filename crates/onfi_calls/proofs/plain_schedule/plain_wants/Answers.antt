use Rattle.std.proofs.Common.{◌∙◌, arith}
use Rattle.onfi_calls.specs.PlainSchedule.{written_want}
use Rattle.onfi_flight.proofs.Lists.{mapped_more, mapped_all}
use Rattle.onfi_calls.proofs.plain_schedule.plain_wants.Goals as goal

pub loop-want-preserved : goal.loop-want-preserved
loop-want-preserved c = record {
  made = c.push.ensures.items ∙ mapped_more written_want c.args.wants.now c.loop-want.want-index c.loop-want.all.items _ c.plain_want.result c.loop-want-test.true c.plain_want.ensures c.loop-want.invariant.made;
  few = let more = c.push.ensures.len in omega (arith, more, c.loop-want.invariant.few);
}

pub returns : goal.returns
returns c = mapped_all written_want c.args.wants.now c.loop-want.want-index c.loop-want.all.items c.loop-want-test.false c.loop-want.invariant.made
