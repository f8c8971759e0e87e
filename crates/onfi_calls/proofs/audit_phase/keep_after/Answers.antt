use Rattle.std.proofs.Common.{sym, subst}
use Rattle.onfi_calls.specs.Audit.{IsAuditSaid}
use Rattle.onfi_calls.proofs.Audits.{asked_kept}
use Rattle.onfi_calls.proofs.audit_phase.keep_after.Goals as goal

pub returns : goal.returns
returns c = λ before asked is.
    subst (λ s. IsAuditSaid s c.args.audit.now) (sym c.keep.ensures.kept)
    (asked_kept c.args.said.now c.args.phase.now before c.args.audit.now asked is c.keep.ensures.fit)
