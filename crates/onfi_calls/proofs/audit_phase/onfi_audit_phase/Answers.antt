use Rattle.std.proofs.Common.{refl, sym, ap, ◌∙◌, ◌≡◌, subst}
use Rattle.onfi_audit.specs.Audit.{MayCome, MayComeLater, Tells, after_line}
use Rattle.onfi_calls.specs.AuditPhase.{is_broken, is_legal, is_too_soon, is_unjudged, line_of}
use Rattle.onfi_calls.specs.Audit.{IsAuditSaid}
use Rattle.onfi_calls.proofs.audit_phase.onfi_audit_phase.Goals as goal

pub returns-in-Err : goal.returns-in-Err
returns-in-Err c = is_unjudged c.in-Err.status c.in-Err.ensures.none refl refl c.number.ensures

pub returns-in-Legal : goal.returns-in-Legal
returns-in-Legal c =
    let left = c.in-Ok.left in
    let line = c.line_of.ensures in
    let found = c.in-Legal.ensures in
    let is : c.judge.new.audit ≡ after_line left (line_of c.args.phase.now) = found.1 ∙ ap (after_line left) line in
    is_legal left c.in-Ok.ensures.asked (subst (MayCome left) line found.0)
    (subst (IsAuditSaid c.keep_after.new.said) is (c.keep_after.ensures left c.in-Ok.ensures.asked is)) refl refl

pub returns-in-TooSoon : goal.returns-in-TooSoon
returns-in-TooSoon c =
    let left = c.in-Ok.left in
    let line = c.line_of.ensures in
    let found = c.in-TooSoon.ensures in
    let is : c.judge.new.audit ≡ after_line left (line_of c.args.phase.now) = found.2 ∙ ap (after_line left) line in
    is_too_soon left c.in-Ok.ensures.asked c.in-TooSoon.breach (subst (λ l. Tells left l c.in-TooSoon.breach) line found.0)
    (subst (λ l. MayComeLater left l) line found.1)
    (subst (IsAuditSaid c.keep_after-in-TooSoon.new.said) is (c.keep_after-in-TooSoon.ensures left c.in-Ok.ensures.asked is))
    c.plain_log_breach.ensures c.number-in-TooSoon.ensures

pub returns : goal.returns
returns c =
    let left = c.in-Ok.left in
    let line = c.line_of.ensures in
    let found = c.in-Broken.ensures in
    is_broken left c.in-Ok.ensures.asked c.in-Broken.breach (subst (λ l. Tells left l c.in-Broken.breach) line found.0)
    (λ later. found.1 (subst (λ l. MayComeLater left l) (sym line) later)) refl c.plain_log_breach-in-Broken.ensures c.number-in-Broken.ensures
