use Rattle.onfi_schedule.proofs.LegalIs.{few_starts_of}
use Rattle.onfi_planners.proofs.cost.cost_of.Goals as goal

pub cost_of_groups-requires-clause-few : goal.cost_of_groups-requires-clause-few
cost_of_groups-requires-clause-few c = rw c.groups.ensures.value (few_starts_of c.args.problem.now.problem c.args.schedule.now c.in_limits.ensures.limits c.requires)
