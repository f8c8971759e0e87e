use Rattle.std.proofs.Common.{◌≡◌, ◌≤◌}
use Rattle.onfi_known_plan.specs.Walks.{IsRunOf}
use Rattle.onfi_known_plan.proofs.choosing.best_of_own_rules.Given as goal

abbrev pub invariant-loop-rule : goal.invariant-loop-rule
invariant-loop-rule l = record {
  problem : l.problem ≡ l.fn.problem;
  run : IsRunOf l.fn.problem l.best;
  sooner : l.best.finish ≤ l.fn.first.finish;
}
