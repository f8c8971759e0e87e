use Rattle.std.proofs.Common.{refl}
use Rattle.onfi_calls.specs.AuditPhase.{is_ready, isnt_ready}
use Rattle.onfi_calls.proofs.audit_phase.onfi_audit_ready.Goals as goal

pub returns-in-Ok : goal.returns-in-Ok
returns-in-Ok c = is_ready c.in-Ok.left c.in-Ok.ensures.ready (c.keep_ready.ensures c.args.lun c.args.moment c.in-Ok.ensures.ready) refl

pub returns-in-Err : goal.returns-in-Err
returns-in-Err c = isnt_ready c.in-Err.status c.in-Err.ensures.none refl c.number.ensures
