use Rattle.std.proofs.Common.{◌++◌, ap, ◌∙◌}
use Rattle.std.specs.Prelude.{string_bytes}
use Rattle.onfi_run.specs.Report.{reply_line}
use Rattle.onfi_run.proofs.Numbered.{numbered_none, numbered_more, numbered_all}
use Rattle.onfi_run.proofs.text.put_answers.Goals as goal

pub loop-serial-init : goal.loop-serial-init
loop-serial-init c = numbered_none _ _ _

pub loop-serial-preserved : goal.loop-serial-preserved
loop-serial-preserved c = numbered_more _ _ _ c.index-answers-serial.result _ _ _ c.loop-serial-test.true c.loop-serial.invariant
    (c.in_ok-put_reply.ensures ∙ ap (λ a. string_bytes c.loop-serial.text ++ reply_line c.args.clocked c.args.host c.args.channel c.loop-serial.serial a) c.index-answers-serial.is)

pub returns : goal.returns
returns c = numbered_all _ _ _ _ _ c.loop-serial-test.false c.loop-serial.invariant
