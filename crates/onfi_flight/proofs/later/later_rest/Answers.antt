use Rattle.std.proofs.Common.{◌∙◌, ap, arith}
use Rattle.onfi_flight.specs.Times.{later_starts}
use Rattle.onfi_flight.proofs.Lists.{mapped_more, mapped_all}
use Rattle.onfi_flight.proofs.later.later_rest.Goals as goal

pub loop-starts-preserved : goal.loop-starts-preserved
loop-starts-preserved c = record {
  made = c.push.ensures.items ∙ mapped_more (later_starts c.args.by) c.args.rest.now c.loop-starts.starts-index c.loop-starts.later.items _ c.later_starts.result c.loop-starts-test.true (c.later_starts.ensures ∙ ap (later_starts c.args.by) c.starts-item.is) c.loop-starts.invariant.made;
  few = let more = c.push.ensures.len in omega (arith, more, c.loop-starts.invariant.few);
}

pub returns : goal.returns
returns c = mapped_all (later_starts c.args.by) c.args.rest.now c.loop-starts.starts-index c.loop-starts.later.items c.loop-starts-test.false c.loop-starts.invariant.made
