use Rattle.std.proofs.Common.{arith, ap, ◌∙◌}
use Rattle.std.specs.Prelude.{slice_set}
use Rattle.onfi_run.specs.Answers.{came}
use Rattle.onfi_run.proofs.Suited.{changed_past, changed_there}
use Rattle.onfi_run.proofs.answers.come_at.Goals as goal

pub returns-then-at-len : goal.returns-then-at-len
returns-then-at-len c =
    let all = c.args.by_serial.now.items in
    let f = came c.args.now c.args.answer in
    ap (λ x. slice_set all c.args.at x) (c.come.ensures ∙ ap f c.index_mut.ensures.value)
    ∙ changed_there f all c.args.at _ (omega (arith, c.if-at-len.true, c.len.ensures))

pub returns-else-at-len : goal.returns-else-at-len
returns-else-at-len c = changed_past (came c.args.now c.args.answer) c.args.by_serial.now.items c.args.at (omega (arith, c.if-at-len.false, c.len.ensures))
