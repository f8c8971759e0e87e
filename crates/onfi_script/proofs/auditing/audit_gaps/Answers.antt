use Rattle.std.specs.Prelude.{IfOk}
use Rattle.std.proofs.Common.{◌≡◌, Err, subst}
use Rattle.std.proofs.lemmas.Result.{IfOk-weaker}
use Rattle.onfi_script.specs.AnswerOf.{answer_of}
use Rattle.onfi_script.specs.Auditing.{TellsLog}
use Rattle.onfi_script.specs.Gaps.{AnswersGaps, AnswersMeasured, is_read, is_unread}
use Rattle.onfi_script.specs.Script.{plan_text_of}
use Rattle.onfi_script.specs.Stop.{IfRefused}
use Rattle.onfi_script.specs.Text.{refused}
use Rattle.onfi_script.proofs.auditing.audit_gaps.Goals as goal

pub returns-in-Ok : goal.returns-in-Ok
returns-in-Ok c =
    let input = c.args.input.now in
    IfOk-weaker c.measure_log.result (λ a. AnswersMeasured c.args.options c.in-Ok.audit c.in-Ok.requests (plan_text_of input) (answer_of a)) (λ a. AnswersGaps c.args.options input (answer_of a))
    (λ a h. is_read c.in-Ok.audit c.in-Ok.requests c.in-Ok.ensures h) (rw c.plan_text_of.ensures at c.measure_log.ensures)

pub returns-in-Err-Refused : goal.returns-in-Err-Refused
returns-in-Err-Refused c =
    let refusal = c.in-Err-Refused.refusal in
    let told = subst (λ s. IfRefused s (λ r. TellsLog c.args.input.now (Err r))) c.in-Err-Refused.field-0-is c.in-Err-Refused.ensures in
    IfOk-weaker c.answer_refusal.result (λ a. answer_of a ≡ refused refusal) (λ a. AnswersGaps c.args.options c.args.input.now (answer_of a))
    (λ a h. is_unread refusal told h) (subst (λ r. IfOk c.answer_refusal.result (λ a. answer_of a ≡ refused r)) c.in-Err-Refused.refusal-is c.answer_refusal.ensures)
