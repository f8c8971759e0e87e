use Rattle.std.proofs.Common.{◌∙◌, ap, arith}
use Rattle.onfi_flight.specs.Times.{later_group}
use Rattle.onfi_flight.proofs.Lists.{mapped_more, mapped_all}
use Rattle.onfi_flight.proofs.later.delay_groups.Goals as goal

pub loop-placed-preserved : goal.loop-placed-preserved
loop-placed-preserved c = record {
  made = c.push.ensures.items ∙ mapped_more (later_group c.args.by) c.args.groups.now c.loop-placed.placed-index c.loop-placed.later.items _ c.delay_group.result c.loop-placed-test.true (c.delay_group.ensures ∙ ap (later_group c.args.by) c.placed-item.is) c.loop-placed.invariant.made;
  few = let more = c.push.ensures.len in omega (arith, more, c.loop-placed.invariant.few);
}

pub returns : goal.returns
returns c = mapped_all (later_group c.args.by) c.args.groups.now c.loop-placed.placed-index c.loop-placed.later.items c.loop-placed-test.false c.loop-placed.invariant.made
