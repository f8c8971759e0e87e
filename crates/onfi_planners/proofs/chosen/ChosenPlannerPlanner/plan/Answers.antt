use Rattle.onfi_planners.proofs.Choosing.{as_found, made_better, none_given}
use Rattle.onfi_planners.proofs.chosen.ChosenPlannerPlanner.plan.Goals as goal

pub returns-in_default-clause-promised : goal.returns-in_default-clause-promised
returns-in_default-clause-promised c = as_found c.args.self.now c.args.problem.now c.args.limit c.in_ok-plan.plan (none_given c.args.self.now.early c.in_default.not-Some) c.in_ok-plan.ensures.promised

pub returns-clause-promised : goal.returns-clause-promised
returns-clause-promised c =
    let first = c.in_ok-plan in
    let better = c.in_ok-better in
    made_better c.args.self.now c.args.problem.now c.args.limit first.plan better.better c.in-Some.early c.weights_of-weights.result c.in-Some.is first.ensures.promised c.weights_of-weights.ensures better.ensures.made better.ensures.as_is
