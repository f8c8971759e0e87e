use Rattle.std.proofs.Common.{ap, ◌∙◌}
use Rattle.onfi_calls.specs.PlainSchedule.{filled, no_group}
use Rattle.onfi_calls.proofs.RanInPlace.{count_then, groups_then, luns_then, schedule_written}
use Rattle.onfi_calls.proofs.delay.delay_said.Goals as goal

pub returns : goal.returns
returns c = λ wants.
    schedule_written (luns_then c.args.by wants c.args.rest.now c.args.groups.now c.args.due.now) (c.count_left.ensures ∙ count_then c.args.by wants c.args.groups.now c.args.due.now.place)
    (c.delay_left.ensures wants) (c.delay_groups.ensures wants ∙ ap (filled 8 no_group) (groups_then c.args.by wants c.args.groups.now c.args.due.now.place))
