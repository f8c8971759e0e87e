use Rattle.std.proofs.Common.{ap, ◌∙◌}
use Rattle.onfi_calls.specs.PlainSchedule.{no_rest, written_rest}
use Rattle.onfi_calls.proofs.Filled.{filled_more, filled_all}
use Rattle.onfi_calls.proofs.plain_schedule.fill_rests.Goals as goal

pub loop-at-preserved : goal.loop-at-preserved
loop-at-preserved c = filled_more written_rest 8 no_rest c.args.of.now c.loop-at.at _ c.rest.result c.loop-at.all c.loop-at-test.true c.requires (c.rest.ensures ∙ ap written_rest c.index-of-at.is) c.loop-at.invariant

pub returns : goal.returns
returns c = filled_all written_rest 8 no_rest c.args.of.now c.loop-at.at c.loop-at.all c.loop-at-test.false c.loop-at.invariant
