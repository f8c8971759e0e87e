use Rattle.std.proofs.Common.{◌∙◌, arith}
use Rattle.onfi_calls.specs.ReadSchedule.{rest_of}
use Rattle.onfi_flight.proofs.Lists.{mapped_more, mapped_all}
use Rattle.onfi_calls.proofs.read_schedule.rests_of.Goals as goal

pub loop-rest-preserved : goal.loop-rest-preserved
loop-rest-preserved c = record {
  made = c.push.ensures.items ∙ mapped_more rest_of c.args.said.now c.loop-rest.rest-index c.loop-rest.rests.items _ c.rest_of.result c.loop-rest-test.true c.rest_of.ensures c.loop-rest.invariant.made;
  few = let more = c.push.ensures.len in omega (arith, more, c.loop-rest.invariant.few);
}

pub returns : goal.returns
returns c = mapped_all rest_of c.args.said.now c.loop-rest.rest-index c.loop-rest.rests.items c.loop-rest-test.false c.loop-rest.invariant.made
