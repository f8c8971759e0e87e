use Rattle.std.proofs.Common.{ap, ◌∙◌}
use Rattle.onfi_calls.specs.Audit.{no_stage, written_stage}
use Rattle.onfi_calls.proofs.Filled.{filled_more, filled_all}
use Rattle.onfi_calls.proofs.audit.plain_stages.Goals as goal

pub loop-at-preserved : goal.loop-at-preserved
loop-at-preserved c =
    filled_more written_stage 8 no_stage c.args.stages.now c.loop-at.at _ c.plain_stage.result
    c.loop-at.all c.loop-at-test.true c.requires.few (c.plain_stage.ensures ∙ ap written_stage c.index-stages-at.is) c.loop-at.invariant

pub returns : goal.returns
returns c = filled_all written_stage 8 no_stage c.args.stages.now c.loop-at.at c.loop-at.all c.loop-at-test.false c.loop-at.invariant
