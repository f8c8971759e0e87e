use Rattle.std.proofs.Common.{sym, subst}
use Rattle.onfi_calls.specs.Audit.{IsAuditSaid}
use Rattle.onfi_calls.proofs.Audits.{ready_kept}
use Rattle.onfi_calls.proofs.audit_phase.keep_ready.Goals as goal

pub returns : goal.returns
returns c = λ lun moment readied.
    subst (λ s. IsAuditSaid s c.args.audit.now) (sym c.keep.ensures.kept)
    (ready_kept c.args.said.now readied.audit c.args.audit.now lun moment readied.said readied.is c.keep.ensures.fit)
