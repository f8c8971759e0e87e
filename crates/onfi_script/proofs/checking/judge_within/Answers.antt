use Rattle.std.proofs.Common.{◌≡◌, ◌∙◌, subst}
use Rattle.std.proofs.lemmas.Result.{IfOk-weaker}
use Rattle.onfi_known_check.specs.Faults.{IsTextFault}
use Rattle.onfi_planners.specs.declared.by.By.TheVariants.{Within}
use Rattle.onfi_script.specs.Answer.{AnswersSchedule, is_refused}
use Rattle.onfi_script.specs.AnswerOf.{answer_of}
use Rattle.onfi_script.specs.Text.{refused_by}
use Rattle.onfi_script.proofs.Told.{above_is_legal}
use Rattle.onfi_script.proofs.checking.judge_within.Goals as goal

pub why_known-requires : goal.why_known-requires
why_known-requires c = above_is_legal _ c.args.problem.now.problem c.args.schedule.now c.args.below c.args.certificate.now c.in-Err.fault c.in-Err.ensures.fault

pub returns-in-Err : goal.returns-in-Err
returns-in-Err c =
    let p = c.args.problem.now.problem in
    let fault = c.in-Err.fault in
    let said = subst (λ all. IsTextFault all p c.args.schedule.now c.args.below c.args.certificate.now fault) c.requires.begun c.in-Err.ensures.fault in
    IfOk-weaker c.refuse-in-Err.result (λ a. answer_of a ≡ refused_by c.why_known.result) (λ a. AnswersSchedule Within p c.args.schedule.now c.args.ends c.args.below c.args.certificate.now (answer_of a))
    (λ a h. is_refused (fault, said, h ∙ c.why_known.ensures)) c.refuse-in-Err.ensures.answer
