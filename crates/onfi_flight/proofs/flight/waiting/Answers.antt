use Rattle.std.proofs.Common.{sym, ◌∙◌, arith}
use Rattle.onfi_flight.proofs.Lists.{waiting_yes, waiting_no}
use Rattle.onfi_flight.proofs.flight.waiting.Goals as goal
use Rattle.onfi_flight.proofs.flight.waiting.Goals.{then-marks-i, else-marks-i}

pub loop-i-preserved : goal.loop-i-preserved
loop-i-preserved c = elim c.if-marks-i.branch [
  | then-marks-i w ↦ (
      let e = waiting_yes c.args.marks.now c.args.all.now c.loop-i.i _ c.loop-i-test.true w.if-marks-i.true in
      record { wants = rw w.wants-is (w.push.ensures.items ∙ rw (c.loop-i.invariant.wants) (sym e)); few = rw w.wants-is (omega arith) })
  | else-marks-i w ↦ (
      let e = waiting_no c.args.marks.now c.args.all.now c.loop-i.i w.if-marks-i.false in
      record { wants = rw w.wants-is (c.loop-i.invariant.wants ∙ sym e); few = rw w.wants-is (omega arith) })
]
