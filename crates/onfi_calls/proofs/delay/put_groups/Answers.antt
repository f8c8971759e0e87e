use Rattle.std.proofs.Common.{◌++◌, ap, ◌∙◌, map}
use Rattle.std.proofs.lemmas.List.{take_all}
use Rattle.onfi_calls.specs.Delay.{later_said}
use Rattle.onfi_calls.specs.PlainSchedule.{filled, no_group}
use Rattle.onfi_calls.proofs.RanInPlace.{put_more}
use Rattle.onfi_calls.proofs.delay.put_groups.Goals as goal

pub loop-at-preserved : goal.loop-at-preserved
loop-at-preserved c = λ wants front begins is.
    put_more (later_said c.args.by wants) 8 c.args.from no_group front c.args.said.now c.loop-at.at _ c.delay_group.result c.loop-at.all begins c.loop-at-test.true c.requires.few
    (c.delay_group.ensures wants) (c.loop-at.invariant wants front begins is)

pub returns : goal.returns
returns c = λ wants front begins is.
    c.loop-at.invariant wants front begins is
    ∙ ap (λ zs. filled 8 no_group (front ++ map (later_said c.args.by wants) zs)) (take_all c.loop-at.at c.args.said.now c.loop-at-test.false)
