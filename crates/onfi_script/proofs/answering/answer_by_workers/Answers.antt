use Rattle.std.proofs.Common.{◌≡◌, inr}
use Rattle.std.proofs.lemmas.Result.{IfOk-weaker}
use Rattle.onfi_script.specs.Answer.{AnswersPlan, IsAnswerBy, PartsTell, is_read, is_unread}
use Rattle.onfi_script.specs.AnswerOf.{answer_of}
use Rattle.onfi_script.specs.declared.command.Command.TheVariants.{PlanBy}
use Rattle.onfi_script.specs.Text.{refused}
use Rattle.onfi_script.proofs.answering.answer_by_workers.Goals as goal

pub returns-in-Ok : goal.returns-in-Ok
returns-in-Ok g c =
    let input = c.args.input.now in
    let p = c.in-Ok.script.problem.problem in
    IfOk-weaker c.answer_plan_by_workers.result (λ a. AnswersPlan PartsTell c.args.options c.in-Ok.script.weights p (answer_of a)) (λ a. IsAnswerBy PartsTell (PlanBy c.args.options) input (answer_of a))
    (λ a h. inr (is_read p c.in-Ok.ensures.told (c.in-Ok.script.weights, c.in-Ok.ensures.weighed, h))) c.answer_plan_by_workers.ensures

pub returns-in-Err-Refused : goal.returns-in-Err-Refused
returns-in-Err-Refused g c =
    let refusal = c.in-Err-Refused.refusal in
    let told = rw c.in-Err-Refused.field-0-is at c.in-Err-Refused.ensures.told in
    IfOk-weaker c.answer_refusal.result (λ a. answer_of a ≡ refused refusal) (λ a. IsAnswerBy PartsTell (PlanBy c.args.options) c.args.input.now (answer_of a))
    (λ a h. inr (is_unread refusal told h)) (rw c.in-Err-Refused.field-0-is at c.answer_refusal.ensures)
