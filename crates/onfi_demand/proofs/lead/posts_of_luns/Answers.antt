use Rattle.std.proofs.Common.{◌<◌, length, arith}
use Rattle.onfi_demand.proofs.Leading.{rest_more}
use Rattle.onfi_demand.proofs.lead.posts_of_luns.Goals as goal

pub loop-lun-preserved : goal.loop-lun-preserved
loop-lun-preserved c =
    let p = c.args.problem.now.problem in
    let within : c.loop-lun.lun < length p.luns = omega arith in
    record {
      sum = rest_more p c.timing-timing.result.now c.loop-lun.lun c.loop-lun.sum c.rest_posts-sum.result c.left_on-left.result c.in_limits.ensures.limits.problem c.timing-timing.ensures within c.left_on-left.ensures.left c.rest_posts-sum.ensures.value c.loop-lun.invariant.sum;
      small = omega arith;
    }
