use Rattle.std.proofs.Common.{[], sym}
use Rattle.onfi_bound.proofs.Steps.{no_want}
use Rattle.onfi_demand.proofs.Working.{some_on, wants_other, wants_no}
use Rattle.onfi_demand.proofs.left.has_want.Goals as goal
use Rattle.onfi_demand.proofs.left.has_want.Goals.{else-marks-i-via-then-marks-i+else-lun-want, else-marks-i-via-else-marks-i}

pub returns-then-lun-want-clause-some : goal.returns-then-lun-want-clause-some
returns-then-lun-want-clause-some c = λ t. some_on c.args.lun c.args.marks.now c.args.all.now c.loop-i.i no_want c.loop-i-test.true c.if-marks-i.true (sym c.if-lun-want.true)

pub loop-i-preserved : goal.loop-i-preserved
loop-i-preserved c = elim c.else-marks-i.branch [
  | else-marks-i-via-then-marks-i+else-lun-want w ↦ sym (wants_other c.args.lun c.args.marks.now c.args.all.now c.loop-i.i no_want [] c.loop-i-test.true w.if-marks-i.true (λ at. w.if-lun-want.false (sym at)) (sym c.loop-i.invariant))
  | else-marks-i-via-else-marks-i w ↦ sym (wants_no c.args.lun c.args.marks.now c.args.all.now c.loop-i.i [] w.if-marks-i.false (sym c.loop-i.invariant))
]
