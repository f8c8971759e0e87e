use Rattle.std.proofs.Common.{◌<◌, length, arith}
use Rattle.onfi_known_check.proofs.Keeping.{left_more}
use Rattle.onfi_known_check.proofs.known.list_left.Goals as goal

pub loop-lun-preserved : goal.loop-lun-preserved
loop-lun-preserved c =
    let p = c.args.problem.now.problem in
    let within : c.loop-lun.lun < length p.luns = omega arith in
    record {
      luns = left_more p.luns c.loop-lun.lun c.left_on.result c.loop-lun.luns.items c.push.new.self.items within c.left_on.ensures.left c.loop-lun.invariant.luns c.push.ensures.items;
      few = omega arith;
    }
