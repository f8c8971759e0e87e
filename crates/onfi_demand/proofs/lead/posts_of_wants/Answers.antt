use Rattle.std.proofs.Common.{◌+◌, ◌∙◌, ap, arith}
use Rattle.onfi_bound.proofs.Steps.{no_want}
use Rattle.onfi_demand.proofs.Leading.{posts_yes, posts_no}
use Rattle.onfi_demand.proofs.lead.posts_of_wants.Goals as goal
use Rattle.onfi_demand.proofs.lead.posts_of_wants.Goals.{then-marks-i, else-marks-i}

pub loop-i-preserved : goal.loop-i-preserved
loop-i-preserved c = elim c.if-marks-i.branch [
  | then-marks-i w ↦ (
      let r = w.spans-sum.result.in_range in
      let e = posts_yes c.args.timing.now c.args.marks.now c.args.all.now c.loop-i.i no_want c.loop-i.sum c.loop-i-test.true w.if-marks-i.true c.loop-i.invariant.sum in
      let q = ap (λ s. c.loop-i.sum + s.post) w.spans-sum.ensures in
      record { sum = rw w.sum-is (q ∙ e); small = rw w.sum-is (omega arith) })
  | else-marks-i w ↦ (
      let e = posts_no c.args.timing.now c.args.marks.now c.args.all.now c.loop-i.i c.loop-i.sum w.if-marks-i.false c.loop-i.invariant.sum in
      record { sum = rw w.sum-is e; small = rw w.sum-is (omega arith) })
]
