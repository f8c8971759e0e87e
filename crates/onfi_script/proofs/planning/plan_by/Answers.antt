use Rattle.std.proofs.Common.{◌≡◌, rules, subst}
use Rattle.onfi_planners.specs.Choice.{IsPlannedBy}
use Rattle.onfi_script.proofs.Plans.{by_way}
use Rattle.onfi_script.proofs.planning.plan_by.Goals as goal

pub improve_plan-requires : goal.improve_plan-requires
improve_plan-requires c =
    let o = c.args.options in
    let x = c.args.problem.now in
    let e = c.in_ok-plan.ensures in
    let limit : c.unwrap-limit.result ≡ o.limit = search rules in
    let is = by_way o.by o.limit x c.in_ok-plan.plan (subst (λ n. IsPlannedBy o.by x n c.in_ok-plan.plan) limit e.promised) in
    record { legal = e.legal; ends = e.finish; rising = e.rising; shown = e.shown; none_before = e.none_before; is_by = is }
