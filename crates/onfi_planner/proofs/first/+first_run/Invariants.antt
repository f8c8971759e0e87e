use Rattle.onfi_planner.specs.Planning.{work}
use Rattle.onfi_planner.proofs.first.+first_run.Given as goal

abbrev pub decreases-first_run : goal.decreases-first_run
decreases-first_run l = work l.problem.now.problem
