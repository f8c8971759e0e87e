use Rattle.std.proofs.Common.{arith, subst}
use Rattle.onfi_check.specs.Ends.{IsLastEnd}
use Rattle.onfi_known_check.proofs.Yielding.{no_end, not_there, too_late}
use Rattle.onfi_known_check.proofs.standing.take_yield.Goals as goal
use Rattle.onfi_known_check.proofs.standing.take_yield.Goals.{then-lun-lun_count-via-then-lun-lun_count, then-lun-lun_count-via-else-lun-lun_count+then-end-may_go}

pub returns-in_default-clause-err : goal.returns-in_default-clause-err
returns-in_default-clause-err c = λ moves m y each last own lun may. no_end c.args.problem.now.problem moves m y c.args.standing.now.given.items c.args.lun _ (last c.args.lun c.requires.lun) c.in_default.not-Some lun may

pub returns-then-lun-lun_count-clause-err : goal.returns-then-lun-lun_count-clause-err
returns-then-lun-lun_count-clause-err c = λ moves m y each last own lun may.
    elim c.then-lun-lun_count.branch [
      | then-lun-lun_count-via-then-lun-lun_count w ↦ not_there c.args.problem.now.problem moves m y c.args.standing.now.given.items c.args.lun c.in_limits.ensures.limits.problem each lun (omega (arith, w.if-lun-lun_count.true, c.lun_count.ensures.value)) may
      | then-lun-lun_count-via-else-lun-lun_count+then-end-may_go w ↦ too_late c.args.problem.now.problem moves m y c.args.standing.now.given.items c.args.own c.args.lun c.in-Some.end (subst (IsLastEnd c.args.problem.now.problem moves c.args.lun) c.in-Some.is (last c.args.lun c.requires.lun)) own lun (omega (arith, w.if-end-may_go.true, w.may_go.ensures)) may
    ]
