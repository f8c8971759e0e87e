use Rattle.std.proofs.Common.{◌<◌, length, arith}
use Rattle.onfi_steady.proofs.GreatestBound.{die_more}
use Rattle.onfi_steady.proofs.below.greatest_bound.Goals as goal

pub loop-lun-preserved : goal.loop-lun-preserved
loop-lun-preserved c =
    let p = c.args.problem.now.problem in
    let value = c.lun_count-lun-end.ensures.value in
    let test = c.loop-lun-test.true in
    let there : c.loop-lun.lun < length p.luns = omega arith in
    rw c.choose_greater-greatest.ensures (die_more p c.loop-lun.greatest c.loop-lun.lun c.die.result there c.die.ensures.value c.loop-lun.invariant)
