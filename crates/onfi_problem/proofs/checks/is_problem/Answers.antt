use Rattle.std.proofs.Common.{◌≡◌, ◌+◌, arith, subst}
use Rattle.onfi_problem.specs.Problem.{IsRunning}
use Rattle.onfi_problem.proofs.Sums.{luns_run, run_luns}
use Rattle.onfi_problem.proofs.checks.is_problem.Goals as goal

pub returns-then-is_list : goal.returns-then-is_list
returns-then-is_list c = λ timing bus_free.
    let w = c.is_list.ensures.0 c.if-is_list.true in
    let rules = c.args.rules.now in (
      (λ t. record {
        wants = w.0;
        in_range = w.1;
        ids = w.2;
        running = λ lun g n r e. let z : 0 + lun ≡ lun = omega arith in subst (λ i. IsRunning rules i g n) z (luns_run rules 0 c.args.luns.now (c.are_luns.ensures.0 t) lun g n r e);
      }),
      (λ p. c.are_luns.ensures.1 (run_luns rules 0 c.args.luns.now (λ lun g n r e. let z : lun ≡ 0 + lun = omega arith in subst (λ i. IsRunning rules i g n) z (p.running lun g n r e)))),
    )
