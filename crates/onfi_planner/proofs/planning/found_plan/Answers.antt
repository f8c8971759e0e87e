use Rattle.onfi_planner.proofs.Whole.{optimal_plan}
use Rattle.onfi_planner.proofs.planning.found_plan.Goals as goal

pub returns-clause-optimal : goal.returns-clause-optimal
returns-clause-optimal c =
    let ends = c.schedule_of-schedule.ensures.finish c.args.best.now.finish (rw c.as_slice.ensures.value c.requires.found.run) in
    optimal_plan c.args.problem.now.problem c.schedule_of-schedule.result c.args.cert.items c.args.best.now.finish c.requires.limits.problem c.schedule_of-schedule.ensures.legal ends c.requires.cert

pub returns-clause-finish : goal.returns-clause-finish
returns-clause-finish c = c.schedule_of-schedule.ensures.finish c.args.best.now.finish (rw c.as_slice.ensures.value c.requires.found.run)
