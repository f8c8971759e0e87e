use Rattle.onfi_known_plan.proofs.planning.+walk_on.Given as goal

abbrev pub decreases-walk_on : goal.decreases-walk_on
decreases-walk_on l = l.best.now.finish
