use Rattle.std.proofs.Common.{rules}
use Rattle.onfi_known_plan.proofs.Tree.{root_run, root_begun}
use Rattle.onfi_known_plan.proofs.planning.begin.Goals as goal

pub best_of_rules-requires-clause-run : goal.best_of_rules-requires-clause-run
best_of_rules-requires-clause-run c = root_run c.args.problem.now c.in_ok-root.root c.in_ok-root.ensures

pub returns : goal.returns
returns c = root_begun c.args.problem.now c.best_of_rules.new.problem c.in_ok-root.root c.in_ok-best.best c.in_ok-root.ensures c.in_ok-best.ensures.problem c.in_ok-best.ensures.run c.in_ok-best.ensures.sooner c.in_ok-best.ensures.by_rule (search rules)
