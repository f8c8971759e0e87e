use Rattle.std.proofs.Common.{refl, sym, ◌∙◌}
use Rattle.onfi_calls.specs.AuditPhase.{is_no_kind, is_no_request, is_too_late}
use Rattle.onfi_calls.proofs.audit_phase.ask.Goals as goal

pub returns-then-is_bad_kind-clause-none : goal.returns-then-is_bad_kind-clause-none
returns-then-is_bad_kind-clause-none c = is_no_kind c.in-Ok.audit c.in-Ok.ensures.said (sym c.is_bad_kind.ensures ∙ c.if-is_bad_kind.true) refl

pub returns-then-phase-ge-LATE-clause-none : goal.returns-then-phase-ge-LATE-clause-none
returns-then-phase-ge-LATE-clause-none c =
    is_too_late c.in-Ok.audit c.in-Ok.ensures.said (sym c.is_bad_kind.ensures ∙ c.if-is_bad_kind.false) c.if-phase-ge-LATE.true refl

pub returns-in-Err-bring-clause-none : goal.returns-in-Err-bring-clause-none
returns-in-Err-bring-clause-none c =
    is_no_request c.in-Ok.audit c.in-Ok.ensures.said (sym c.is_bad_kind.ensures ∙ c.if-is_bad_kind.false) c.if-phase-ge-LATE.false c.in-Err-bring.ensures.none
