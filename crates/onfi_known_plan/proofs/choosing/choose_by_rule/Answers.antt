use Rattle.onfi_planner.specs.Planning.{run_of}
use Rattle.onfi_steady.proofs.RuleRun.{rule_is_run}
use Rattle.onfi_known_plan.proofs.Ruled.{ruled_by_bound, ruled_by_run}
use Rattle.onfi_known_plan.proofs.choosing.choose_by_rule.Goals as goal

pub returns-in-Some-clause-by_rule : goal.returns-in-Some-clause-by_rule
returns-in-Some-clause-by_rule c =
    ruled_by_bound c.args.problem.now.problem c.args.best.finish c.in-Some._first.bound c.in_limits.ensures.limits.problem c.in-Some.ensures.is_first.reaches

pub returns-clause-run : goal.returns-clause-run
returns-clause-run c =
    let x = c.args.problem.now in
    let ruled = c.in_ok-ruled.ruled in
    c.choose_sooner.ensures.run x c.requires.run (rule_is_run (run_of x.groups ruled.steps.items) x.problem ruled.finish c.in_ok-ruled.ensures.run)

pub returns-clause-by_rule : goal.returns-clause-by_rule
returns-clause-by_rule c =
    let x = c.args.problem.now in
    let ruled = c.in_ok-ruled.ruled in
    ruled_by_run x.problem c.choose_sooner.result.finish ruled.finish (run_of x.groups ruled.steps.items) c.in_ok-ruled.ensures.run c.choose_sooner.ensures.no_later
