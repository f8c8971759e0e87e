use Rattle.std.proofs.Common.{ap, ◌∙◌}
use Rattle.onfi_calls.specs.PlainSchedule.{no_group, written_group}
use Rattle.onfi_calls.proofs.Filled.{filled_more, filled_all}
use Rattle.onfi_calls.proofs.plain_schedule.groups.Goals as goal

pub loop-at-preserved : goal.loop-at-preserved
loop-at-preserved c = filled_more written_group 8 no_group c.args.of.now c.loop-at.at _ c.group.result c.loop-at.all c.loop-at-test.true c.requires (c.group.ensures ∙ ap written_group c.index-of-at.is) c.loop-at.invariant

pub returns : goal.returns
returns c = filled_all written_group 8 no_group c.args.of.now c.loop-at.at c.loop-at.all c.loop-at-test.false c.loop-at.invariant
