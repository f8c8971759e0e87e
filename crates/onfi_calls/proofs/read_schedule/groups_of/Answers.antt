use Rattle.std.proofs.Common.{◌∙◌, arith}
use Rattle.onfi_calls.specs.ReadSchedule.{group_of}
use Rattle.onfi_flight.proofs.Lists.{mapped_more, mapped_all}
use Rattle.onfi_calls.proofs.read_schedule.groups_of.Goals as goal

pub loop-group-preserved : goal.loop-group-preserved
loop-group-preserved c = record {
  made = c.push.ensures.items ∙ mapped_more (group_of c.args.wants.now) c.args.said.now c.loop-group.group-index c.loop-group.groups.items _ c.group_of.result c.loop-group-test.true c.group_of.ensures c.loop-group.invariant.made;
  few = let more = c.push.ensures.len in omega (arith, more, c.loop-group.invariant.few);
}

pub returns : goal.returns
returns c = mapped_all (group_of c.args.wants.now) c.args.said.now c.loop-group.group-index c.loop-group.groups.items c.loop-group-test.false c.loop-group.invariant.made
