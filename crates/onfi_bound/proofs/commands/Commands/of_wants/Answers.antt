use Rattle.std.proofs.Common.{◌+◌, if◌then◌else◌, ◌∙◌, sym, ap, arith}
use Rattle.onfi_group.specs.Words.{total}
use Rattle.onfi_bound.specs.Bounds.{same_operation}
use Rattle.onfi_bound.specs.Commands.{count_of, one_of}
use Rattle.onfi_bound.proofs.Steps.{no_want, waiting_no}
use Rattle.onfi_bound.proofs.Counting.{want_counted, counted_one, same_count}
use Rattle.onfi_bound.proofs.commands.Commands.of_wants.Goals as goal
use Rattle.onfi_bound.proofs.commands.Commands.of_wants.Goals.{then-marks-i, else-marks-i}

pub loop-i-preserved : goal.loop-i-preserved
loop-i-preserved c = elim c.if-marks-i.branch [
  | then-marks-i w ↦ record {
    same = λ operation. rw w.counts-is (counted_one _ _ _ _ _ (w.with-counts.ensures operation ∙ ap (λ z. count_of c.loop-i.counts operation + (if same_operation operation z then 1 else 0)) w.operation.ensures) (c.loop-i.invariant.same operation) (want_counted operation c.args.marks.now c.args.wants.now c.loop-i.i no_want c.loop-i-test.true w.if-marks-i.true));
    few = λ operation. rw w.counts-is (same_count (same_operation operation _) _ _ _ (w.with-counts.ensures operation) (c.loop-i.invariant.few operation));
  }
  | else-marks-i w ↦ record {
    same = λ operation. rw w.counts-is (c.loop-i.invariant.same operation ∙ sym (ap (total (one_of operation)) (waiting_no c.args.marks.now c.args.wants.now c.loop-i.i w.if-marks-i.false)));
    few = λ operation. rw w.counts-is (let f = c.loop-i.invariant.few operation in omega arith);
  }
]
