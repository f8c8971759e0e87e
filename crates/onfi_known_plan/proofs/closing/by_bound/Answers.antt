use Rattle.onfi_planner.proofs.Reaching.{none_open}
use Rattle.onfi_known_plan.proofs.closing.by_bound.Goals as goal

pub returns-in-None-clause-open : goal.returns-in-None-clause-open
returns-in-None-clause-open c = none_open c.args.problem.now.problem c.args.e c.in-None.ensures
