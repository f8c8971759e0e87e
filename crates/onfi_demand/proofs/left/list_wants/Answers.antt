use Rattle.std.proofs.Common.{arith}
use Rattle.onfi_demand.proofs.Working.{wants_yes, wants_other, wants_no}
use Rattle.onfi_demand.proofs.left.list_wants.Goals as goal
use Rattle.onfi_demand.proofs.left.list_wants.Goals.{then-marks-i+then-want-lun, else-marks-i, else-marks-i-via-then-marks-i+else-want-lun, else-marks-i-via-else-marks-i}
use Rattle.onfi_bound.proofs.Steps.{no_want}

pub loop-i-preserved : goal.loop-i-preserved
loop-i-preserved c = elim c.if-marks-i.branch [
  | then-marks-i+then-want-lun w ↦ (
      let e = wants_yes c.args.lun c.args.marks.now c.args.all.now c.loop-i.i no_want c.loop-i.wants.items _ c.loop-i-test.true w.if-marks-i.true w.if-want-lun.true c.loop-i.invariant.wants w.push.ensures.items in
      record { wants = rw w.wants-is e; few = rw w.wants-is (omega arith) })
  | else-marks-i w ↦ elim w.else-marks-i.branch [
    | else-marks-i-via-then-marks-i+else-want-lun v ↦ (
        let e = wants_other c.args.lun c.args.marks.now c.args.all.now c.loop-i.i no_want c.loop-i.wants.items c.loop-i-test.true v.if-marks-i.true v.if-want-lun.false c.loop-i.invariant.wants in
        record { wants = rw w.wants-is e; few = rw w.wants-is (omega arith) })
    | else-marks-i-via-else-marks-i v ↦ (
        let e = wants_no c.args.lun c.args.marks.now c.args.all.now c.loop-i.i c.loop-i.wants.items v.if-marks-i.false c.loop-i.invariant.wants in
        record { wants = rw w.wants-is e; few = rw w.wants-is (omega arith) })
  ]
]
