use Rattle.std.proofs.Common.{◌∙◌, arith}
use Rattle.onfi_calls.specs.Problem.{want_of}
use Rattle.onfi_flight.proofs.Lists.{mapped_more, mapped_all}
use Rattle.onfi_calls.proofs.problem.few_wants_of.Goals as goal

pub loop-want-preserved : goal.loop-want-preserved
loop-want-preserved c = record {
  made = c.push.ensures.items ∙ mapped_more (want_of c.args.plane_bits) c.args.said.now c.loop-want.want-index c.loop-want.wants.items _ c.want_of.result c.loop-want-test.true c.want_of.ensures c.loop-want.invariant.made;
  few = let more = c.push.ensures.len in omega (arith, more, c.loop-want.invariant.few);
}

pub returns : goal.returns
returns c = mapped_all (want_of c.args.plane_bits) c.args.said.now c.loop-want.want-index c.loop-want.wants.items c.loop-want-test.false c.loop-want.invariant.made
