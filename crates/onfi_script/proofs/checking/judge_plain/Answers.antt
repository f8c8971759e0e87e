use Rattle.std.proofs.Common.{◌≡◌, ◌∙◌}
use Rattle.std.proofs.lemmas.Result.{IfOk-weaker}
use Rattle.onfi_schedule.specs.Schedule.{finish}
use Rattle.onfi_planners.specs.declared.by.By.TheVariants.{Plain}
use Rattle.onfi_script.specs.Answer.{AnswersSchedule, is_refused}
use Rattle.onfi_script.specs.AnswerOf.{answer_of}
use Rattle.onfi_script.specs.Text.{refused_by}
use Rattle.onfi_script.proofs.checking.judge_plain.Goals as goal

pub returns-in-Err : goal.returns-in-Err
returns-in-Err c =
    let p = c.args.problem.now.problem in
    IfOk-weaker c.refuse-in-Err.result (λ a. answer_of a ≡ refused_by c.why_plain.result) (λ a. AnswersSchedule Plain p c.args.schedule.now c.args.ends (finish p c.args.schedule.now) c.args.certificate.now (answer_of a))
    (λ a h. is_refused (c.in-Err.fault, c.in-Err.ensures.fault, h ∙ c.why_plain.ensures)) c.refuse-in-Err.ensures.answer
