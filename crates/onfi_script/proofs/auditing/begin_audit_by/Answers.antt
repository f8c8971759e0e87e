use Rattle.std.proofs.Common.{sym, ◌∙◌, refl}
use Rattle.onfi_script.specs.Auditing.{goes_beyond}
use Rattle.onfi_script.specs.SetupOf.{problem_of}
use Rattle.onfi_script.proofs.Logs.{no_device, opened_by}
use Rattle.onfi_script.proofs.auditing.begin_audit_by.Goals as goal

pub returns-in-Err : goal.returns-in-Err
returns-in-Err c = rw c.at.ensures (no_device c.args.rows.now c.in-Err.stop c.in-Err.ensures)

pub returns-in-Some : goal.returns-in-Some
returns-in-Some c = rw c.at-in-Some.ensures (goes_beyond c.in-Ok.device c.in-Some.at c.in-Ok.ensures (sym c.in-Some.ensures) refl)

pub returns : goal.returns
returns c =
    opened_by c.args.rows.now c.in-Ok.device (problem_of c.in-Ok-set_up.setup) c.begin_audit.result
    c.in-Ok.ensures (sym c.find_beyond.ensures ∙ c.in_default.is) c.in-Ok-set_up.ensures c.begin_audit.ensures
