use Rattle.std.proofs.Common.{sym, subst}
use Rattle.std.proofs.lemmas.Result.{IfErr-weaker}
use Rattle.onfi_script.specs.Answer.{IsFound, OneTells, PartsTell, TellsOver}
use Rattle.onfi_script.proofs.Plans.{split_plan}
use Rattle.onfi_script.proofs.planning.plan_by_workers.Goals as goal

pub improve_plan-requires : goal.improve_plan-requires
improve_plan-requires g c =
    let o = c.args.options in
    let x = c.args.problem.now in
    let planned = c.in_ok-planned-in-Plain in
    let e = planned.ensures in
    let of = c.of-plan.ensures in
    subst (λ b. IsFound b o.limit x c.of-plan.result) (sym c.in-Plain.is)
    (split_plan o.limit x c.of-plan.result planned.planned of.schedule of.finish of.below of.certificate e.optimal e.finish e.rising e.cert)

pub returns-in-Within-clause-over : goal.returns-in-Within-clause-over
returns-in-Within-clause-over g c =
    let o = c.args.options in
    let p = c.args.problem.now.problem in
    IfErr-weaker c.plan_by.result _ _ (λ fault over opened e. subst (λ b. TellsOver PartsTell b o.limit p opened) (sym c.in-Within.is) (subst (λ b. TellsOver OneTells b o.limit p opened) c.in-Within.is (over opened e))) c.plan_by.ensures.over

pub returns-in-Rule-clause-over : goal.returns-in-Rule-clause-over
returns-in-Rule-clause-over g c =
    let o = c.args.options in
    let p = c.args.problem.now.problem in
    IfErr-weaker c.plan_by-in-Rule.result _ _ (λ fault over opened e. subst (λ b. TellsOver PartsTell b o.limit p opened) (sym c.in-Rule.is) (subst (λ b. TellsOver OneTells b o.limit p opened) c.in-Rule.is (over opened e))) c.plan_by-in-Rule.ensures.over
