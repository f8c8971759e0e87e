use Rattle.std.proofs.Common.{◌≡◌, subst}
use Rattle.onfi_script.specs.AnswerOf.{answer_of}
use Rattle.onfi_script.specs.Stop.{IfRefused}
use Rattle.onfi_script.specs.Text.{refused}
use Rattle.onfi_run.specs.Prepares.{IsPrepared, IsRefused}
use Rattle.onfi_run.specs.Running.{is_refused, is_report, purpose_of}
use Rattle.onfi_run.proofs.running.answer.Goals as goal

pub returns-in-Ok-clause-answer : goal.returns-in-Ok-clause-answer
returns-in-Ok-clause-answer g c =
    let input = c.args.input.now in
    let p = c.in-Ok.prepared in
    let report = c.in_ok-report-in-Ok in
    let prepared = subst (λ x. IsPrepared x input p.rows.items p.device.chips) c.purpose_of.ensures c.in-Ok.ensures in
    is_report p.rows.items p.device.chips report.report prepared report.ensures.report c.in_ok-answer-in-Ok.ensures

pub returns-in-Err-Refused-clause-answer : goal.returns-in-Err-Refused-clause-answer
returns-in-Err-Refused-clause-answer g c =
    let input = c.args.input.now in
    let why = subst (λ s. IfRefused s (λ r. IsRefused (purpose_of c.args.clocked) input r)) c.in-Err-Refused.field-0-is
    (subst (λ x. IfRefused c.in-Err-Refused.field-0 (λ r. IsRefused x input r)) c.purpose_of.ensures c.in-Err-Refused.ensures) in
    let answer = c.in_ok-answer-in-Err-Refused in
    is_refused c.in-Err-Refused.refusal why (subst (λ r. answer_of answer.answer ≡ refused r) c.in-Err-Refused.refusal-is answer.ensures)
