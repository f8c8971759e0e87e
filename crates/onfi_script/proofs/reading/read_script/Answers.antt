use Rattle.std.proofs.Common.{Err, refl}
use Rattle.std.proofs.lemmas.Result.{err_from_is_err_and}
use Rattle.onfi_script.specs.declared.purpose.Purpose.TheVariants.{Problem}
use Rattle.onfi_script.specs.Answer.{TellsScript, TellsSetup, has_refusal, has_rows}
use Rattle.onfi_script.specs.Input.{TellsRows}
use Rattle.onfi_script.proofs.Scripts.{if_refused}
use Rattle.onfi_script.proofs.reading.read_script.Goals as goal

pub returns-in_err-rows-clause-told : goal.returns-in_err-rows-clause-told
returns-in_err-rows-clause-told c =
    let input = c.args.input.now in
    let p = err_from_is_err_and c.from_residual.result c.from_residual.ensures.1 in
    rw (p.1, p.2) (if_refused c.in_err-rows.field-0.0 (λ refusal. TellsRows Problem input (Err refusal)) (λ refusal. TellsScript input (Err refusal))
    (λ refusal h. has_refusal refusal h refl) c.in_err-rows.ensures)

pub returns-in_err-problem-clause-told : goal.returns-in_err-problem-clause-told
returns-in_err-problem-clause-told c =
    let input = c.args.input.now in
    let rows = c.in_ok-rows.rows.items in
    let p = err_from_is_err_and c.from_residual-in_err-problem.result c.from_residual-in_err-problem.ensures.1 in
    let told = rw c.as_slice.ensures.value at c.in_err-problem.ensures.told in
    rw (p.1, p.2) (if_refused c.in_err-problem.field-0.0 (λ refusal. TellsSetup rows (Err refusal)) (λ refusal. TellsScript input (Err refusal))
    (λ refusal. has_rows rows c.in_ok-rows.ensures) told)

pub returns-clause-told : goal.returns-clause-told
returns-clause-told c = has_rows c.in_ok-rows.rows.items c.in_ok-rows.ensures (rw c.as_slice.ensures.value at c.in_ok-problem.ensures.told)

pub returns-clause-weighed : goal.returns-clause-weighed
returns-clause-weighed c = (c.in_ok-rows.rows.items, c.in_ok-rows.ensures, rw c.as_slice-2.ensures.value at c.weights-weights.ensures.wants, c.weights-weights.ensures.running)
