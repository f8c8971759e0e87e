use Rattle.std.proofs.Common.{length, refl, sym, ◌∙◌}
use Rattle.onfi_calls.specs.AuditPhase.{isnt_there}
use Rattle.onfi_calls.proofs.Audits.{is_low, isnt_low}
use Rattle.onfi_calls.proofs.audit_phase.ready_by.Goals as goal

pub returns-then-is_there-clause-ready : goal.returns-then-is_there-clause-ready
returns-then-is_there-clause-ready c =
    let left = c.in-Ok.audit in
    let low = is_low c.args.lun (length left.luns) (sym c.is_there.ensures ∙ c.if-is_there.true) in
    record { audit = left; said = c.in-Ok.ensures.said; there = low; is = c.ready.ensures }

pub returns-clause-none : goal.returns-clause-none
returns-clause-none c =
    let left = c.in-Ok.audit in
    isnt_there left c.in-Ok.ensures.said (isnt_low c.args.lun (length left.luns) (sym c.is_there.ensures ∙ c.if-is_there.false)) refl
