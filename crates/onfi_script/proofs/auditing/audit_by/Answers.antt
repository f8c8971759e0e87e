use Rattle.std.specs.Prelude.{IfOk}
use Rattle.std.proofs.Common.{◌≡◌, Err, subst}
use Rattle.std.proofs.lemmas.Result.{IfOk-weaker}
use Rattle.onfi_log.specs.Text.{answer_of as log_answer_of}
use Rattle.onfi_script.specs.AnswerOf.{answer_of}
use Rattle.onfi_script.specs.Auditing.{AnswersAuditBy, TellsLog, is_judged, is_unread}
use Rattle.onfi_script.specs.Stop.{IfRefused}
use Rattle.onfi_script.specs.Text.{refused}
use Rattle.onfi_script.proofs.auditing.audit_by.Goals as goal

pub returns-in-Err-Refused : goal.returns-in-Err-Refused
returns-in-Err-Refused c =
    let refusal = c.in-Err-Refused.refusal in
    let told = subst (λ s. IfRefused s (λ r. TellsLog c.args.input.now (Err r))) c.in-Err-Refused.field-0-is c.in-Err-Refused.ensures in
    IfOk-weaker c.answer_refusal.result (λ a. answer_of a ≡ refused refusal) (λ a. AnswersAuditBy c.args.options c.args.input.now (answer_of a))
    (λ a h. is_unread refusal told h) (subst (λ r. IfOk c.answer_refusal.result (λ a. answer_of a ≡ refused r)) c.in-Err-Refused.refusal-is c.answer_refusal.ensures)

pub returns-in_ok-answer-in-Ok : goal.returns-in_ok-answer-in-Ok
returns-in_ok-answer-in-Ok c =
    let judged = rw (c.plan_text_of-log.ensures, c.manner-manner.ensures) at c.in_ok-answer-in-Ok.ensures in
    is_judged c.in-Ok.audit c.in-Ok.requests (log_answer_of c.in_ok-answer-in-Ok.answer) c.in-Ok.ensures judged c.of.ensures
