use Rattle.onfi_planner.specs.Planning.{work}
use Rattle.onfi_known_plan.proofs.choosing.+run_by.Given as goal

abbrev pub decreases-run_by : goal.decreases-run_by
decreases-run_by l = work l.problem.now.problem
