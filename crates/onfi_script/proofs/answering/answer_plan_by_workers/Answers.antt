use Rattle.std.proofs.Common.{inl, refl}
use Rattle.std.proofs.lemmas.Result.{IfOk-weaker}
use Rattle.onfi_script.proofs.answering.answer_plan_by_workers.Goals as goal

pub returns-in-Ok : goal.returns-in-Ok
returns-in-Ok g c =
    IfOk-weaker c.print_plan.result _ _ (λ a h. inl (record { x = c.args.script.now.problem; of_problem = refl; of_wants = c.requires.begun; plan = c.in-Ok.best; is_plan = c.in-Ok.ensures.plan; text = h.0; spelled = h.1; printed = h.2 })) c.print_plan.ensures
