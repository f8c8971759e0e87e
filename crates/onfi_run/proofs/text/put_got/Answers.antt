use Rattle.std.proofs.Common.{◌++◌, ap, ◌∙◌}
use Rattle.std.specs.Prelude.{string_bytes}
use Rattle.onfi_run.specs.Report.{numbered, reply_line}
use Rattle.onfi_run.proofs.Numbered.{numbered_none, numbered_more, numbered_all}
use Rattle.onfi_run.proofs.text.put_got.Goals as goal

pub loop-channel-init : goal.loop-channel-init
loop-channel-init c = numbered_none _ _ _

pub loop-channel-preserved : goal.loop-channel-preserved
loop-channel-preserved c = numbered_more _ _ _ c.index-got-channel.result _ _ _ c.loop-channel-test.true c.loop-channel.invariant
    (c.in_ok-put_answers.ensures ∙ ap (λ l. string_bytes c.loop-channel.text ++ numbered (reply_line c.args.clocked c.args.host c.loop-channel.channel) 0 l)
    (c.as_slice.ensures.all ∙ c.index-got-channel.is))

pub returns : goal.returns
returns c = numbered_all _ _ _ _ _ c.loop-channel-test.false c.loop-channel.invariant
