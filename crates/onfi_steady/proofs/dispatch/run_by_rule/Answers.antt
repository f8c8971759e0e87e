use Rattle.std.proofs.Common.{subst, sym}
use Rattle.onfi_problem.specs.Position.{Position}
use Rattle.onfi_planner.specs.Planning.{run_of}
use Rattle.onfi_steady.specs.Rule.{IsFor, IsWayRun, batch_of}
use Rattle.onfi_steady.proofs.dispatch.run_by_rule.Goals as goal

pub rule_run-requires-clause-books : goal.rule_run-requires-clause-books
rule_run-requires-clause-books c =
    let x = c.args.problem.now in
    subst (λ (z : Position). (books : _) × IsFor z.problem books c.begin_batch.new.self) (sym c.in_ok-left.ensures) (batch_of x.problem, c.begin_batch.ensures)

pub returns-clause-run : goal.returns-clause-run
returns-clause-run c =
    let x = c.args.problem.now in
    let d = c.begin_batch.new.self in
    let is = subst (λ (z : Position). IsFor z.problem (batch_of x.problem) d) (sym c.in_ok-left.ensures) c.begin_batch.ensures in
    subst (λ (z : Position). IsWayRun (batch_of x.problem) z.problem (run_of z.groups c.rule_run.new.steps.items) c.in_ok-finish.finish) c.in_ok-left.ensures (c.in_ok-finish.ensures.run (batch_of x.problem) is)
