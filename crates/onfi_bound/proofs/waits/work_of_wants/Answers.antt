use Rattle.std.proofs.Common.{sym, arith}
use Rattle.onfi_problem.specs.Problem.{IsWant}
use Rattle.onfi_bound.proofs.Steps.{no_want, all_at}
use Rattle.onfi_bound.proofs.DieBound.{no_work}
use Rattle.onfi_bound.proofs.Counts.{work_more, work_same}
use Rattle.onfi_bound.proofs.waits.work_of_wants.Goals as goal
use Rattle.onfi_bound.proofs.waits.work_of_wants.Goals.{then-want-lun, else-want-lun}

pub loop-i-init : goal.loop-i-init
loop-i-init c = record { value = sym (no_work c.args.timing.now c.args.rules.now); short = omega arith }

pub loop-i-preserved : goal.loop-i-preserved
loop-i-preserved c =
    elim c.if-want-lun.branch [
      | then-want-lun w ↦ (
          let plane = (all_at IsWant c.args.wants.now c.loop-i.i no_want c.loop-i-test.true c.requires.wants).plane in
          let r = w.spans-spans.result.in_range in
          let s = w.wait_of.ensures.short in
          record {
            value = work_more c.args.timing.now c.args.rules.now c.args.lun c.args.wants.now c.loop-i.i no_want w.spans-spans.result c.loop-i.work w.wait_of.result c.if-want-lun.work c.loop-i-test.true plane w.wait_of.ensures.page_fits w.wait_of.ensures.above_fits w.if-want-lun.true w.spans-spans.ensures c.loop-i.invariant.value w.wait_of.ensures.value w.work-is;
            short = rw w.work-is (omega arith);
          })
      | else-want-lun w ↦ record {
        value = rw w.work-is (work_same c.args.timing.now c.args.rules.now c.args.lun c.args.wants.now c.loop-i.i no_want c.loop-i.work c.loop-i-test.true w.if-want-lun.false c.loop-i.invariant.value);
        short = rw w.work-is (omega arith);
      }
    ]
