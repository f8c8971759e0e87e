use Rattle.std.proofs.Common.{◌∙◌, sym, ap, length-set, false}
use Rattle.std.specs.Prelude.{slice_set}
use Rattle.onfi_problem.specs.Position.{waiting_of}
use Rattle.onfi_problem.proofs.Marks.{left_none, left_more, left_same, left_waits, left_all}
use Rattle.onfi_problem.proofs.problem.moving.leave.Goals as goal
use Rattle.onfi_problem.proofs.problem.moving.leave.Goals.{then-has, else-has}

pub loop-i-init : goal.loop-i-init
loop-i-init c = record { long = c.told-waiting; marks = sym (left_none c.args.group.now c.args.waiting.now) }

pub loop-i-preserved : goal.loop-i-preserved
loop-i-preserved c =
    let m = c.loop-i.invariant.marks in
    elim c.if-has.branch [
      | then-has w ↦ rw w.waiting-is (record { long = simp length-set c.loop-i.invariant.long; marks = ap (λ z. slice_set z c.loop-i.i false) m ∙ sym (left_more c.args.group.now c.args.waiting.now c.args.wants.now c.loop-i.i _ c.loop-i-test.true (sym w.if-has.ensures)) })
      | else-has w ↦ rw w.waiting-is (record { long = c.loop-i.invariant.long; marks = m ∙ sym (left_same c.args.group.now c.args.waiting.now c.args.wants.now c.loop-i.i _ c.loop-i-test.true (sym w.if-has.ensures)) })
    ]

pub returns : goal.returns
returns c =
    let m = c.loop-i.invariant.marks in
    ap (λ z. waiting_of z c.args.wants.now) (m ∙ left_all c.args.group.now c.args.waiting.now c.args.wants.now c.loop-i.i c.loop-i-test.false) ∙ left_waits c.args.group.now c.args.waiting.now c.args.wants.now
