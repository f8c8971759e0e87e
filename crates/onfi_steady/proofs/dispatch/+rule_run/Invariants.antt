use Rattle.onfi_planner.specs.Planning.{work}
use Rattle.onfi_steady.proofs.dispatch.+rule_run.Given as goal

abbrev pub decreases-rule_run : goal.decreases-rule_run
decreases-rule_run l = work l.problem.now.problem
