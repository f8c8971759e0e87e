use Rattle.std.proofs.Common.{◌++◌, ap, ◌∙◌}
use Rattle.std.specs.Prelude.{string_bytes}
use Rattle.onfi_run.specs.Report.{got_lines}
use Rattle.onfi_run.proofs.Numbered.{numbered_none, numbered_more, numbered_all}
use Rattle.onfi_run.proofs.text.put_replies.Goals as goal

pub loop-host-init : goal.loop-host-init
loop-host-init c = numbered_none _ _ _

pub loop-host-preserved : goal.loop-host-preserved
loop-host-preserved c = numbered_more _ _ _ c.index-all-host.result _ _ _ c.loop-host-test.true c.loop-host.invariant
    (c.in_ok-put_got.ensures ∙ ap (λ l. string_bytes c.loop-host.text ++ got_lines c.args.clocked c.loop-host.host l) (c.as_slice.ensures ∙ c.index-all-host.is))

pub returns : goal.returns
returns c = numbered_all _ _ _ _ _ c.loop-host-test.false c.loop-host.invariant
