use Rattle.std.proofs.Common.{◌<◌, length, arith}
use Rattle.onfi_schedule.proofs.Waiting.{one_waits, none_waits}
use Rattle.onfi_schedule.proofs.finding.waiting_wants.Goals as goal
use Rattle.onfi_schedule.proofs.finding.waiting_wants.Goals.{then-waiting-at, else-waiting-at}

pub loop-at-preserved : goal.loop-at-preserved
loop-at-preserved c =
    let marks = c.waiting-waiting.result.now in
    let wants = c.wants-want-items.result.now in
    let marked : c.loop-at.at < length marks = omega (arith, c.wants-want-items.ensures.few) in
    elim c.if-waiting-at.branch [
      | then-waiting-at w ↦ (
          record { few = rw w.wants-is (omega (arith, w.push.ensures.len)); wants = rw (w.wants-is, w.push.ensures.items) (one_waits marks wants c.loop-at.wants.items c.loop-at.at _ _ _ marked c.loop-at-test.true w.if-waiting-at.true c.loop-at.invariant.wants) })
      | else-waiting-at w ↦ record { few = rw w.wants-is (omega arith); wants = rw w.wants-is (none_waits marks wants c.loop-at.wants.items c.loop-at.at _ _ marked c.loop-at-test.true w.if-waiting-at.false c.loop-at.invariant.wants) }
    ]
