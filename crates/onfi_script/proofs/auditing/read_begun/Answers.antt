use Rattle.std.proofs.Common.{Err, refl}
use Rattle.std.proofs.lemmas.Result.{err_from_is_err_and}
use Rattle.onfi_script.specs.declared.purpose.Purpose.TheVariants.{Problem}
use Rattle.onfi_script.specs.Auditing.{TellsLog, has_refusal}
use Rattle.onfi_script.specs.Input.{TellsRows}
use Rattle.onfi_script.proofs.Logs.{read_by}
use Rattle.onfi_script.proofs.Scripts.{if_refused}
use Rattle.onfi_script.proofs.auditing.read_begun.Goals as goal

pub returns-in_err-rows : goal.returns-in_err-rows
returns-in_err-rows c =
    let input = c.args.input.now in
    let p = err_from_is_err_and c.from_residual.result c.from_residual.ensures.1 in
    rw (p.1, p.2) (if_refused c.in_err-rows.field-0.0 (λ refusal. TellsRows Problem input (Err refusal)) (λ refusal. TellsLog input (Err refusal))
    (λ refusal h. has_refusal refusal h refl) c.in_err-rows.ensures)

pub returns : goal.returns
returns c = read_by c.args.input.now c.in_ok-rows.rows.items c.begin_audit_by.result c.in_ok-rows.ensures (rw c.as_slice.ensures.value at c.begin_audit_by.ensures)
