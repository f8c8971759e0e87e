use Rattle.std.proofs.Common.{refl}
use Rattle.onfi_calls.specs.AuditBegun.{no_schedule, refuses_audit}
use Rattle.onfi_calls.proofs.audit_begin.onfi_audit_begin.Goals as goal

pub returns-in-Err : goal.returns-in-Err
returns-in-Err c = refuses_audit c.in-Err.status (c.in-Err.ensures.none no_schedule) refl c.number.ensures
