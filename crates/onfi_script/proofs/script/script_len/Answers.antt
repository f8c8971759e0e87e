use Rattle.std.proofs.Common.{sym, ap, ◌∙◌, arith}
use Rattle.std.specs.Prelude.{◌&&◌}
use Rattle.std.proofs.lemmas.List.{take_rest}
use Rattle.onfi_script.specs.Script.{is_end_line, script_of}
use Rattle.onfi_script.proofs.Scan.{left_passed}
use Rattle.onfi_script.proofs.script.script_len.Goals as goal

pub loop-at-preserved : goal.loop-at-preserved
loop-at-preserved c =
    let rest = take_rest c.args.input.now c.loop-at.at in
    let s = c.loop-at.starts in
    left_passed (script_of c.args.input.now) s c.args.input.now c.loop-at.at (omega arith)
    (ap (λ l. s && is_end_line l) (sym rest) ∙ sym c.closes.ensures ∙ c.if-closes.false) c.loop-at.invariant
