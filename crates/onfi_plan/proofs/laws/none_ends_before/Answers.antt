use Rattle.onfi_plan.proofs.Below.{shown_below}
use Rattle.onfi_plan.proofs.laws.none_ends_before.Goals as goal

pub returns : goal.returns
returns c cert below shown =
    let limits = c.in_limits.ensures.limits in
    shown_below cert c.args.problem.now.all c.args.problem.now.problem below limits.problem limits.small shown
