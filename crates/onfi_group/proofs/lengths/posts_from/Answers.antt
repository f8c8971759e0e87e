use Rattle.std.proofs.Common.{arith}
use Rattle.onfi_group.proofs.PhaseLengths.{one_post}
use Rattle.onfi_group.proofs.lengths.posts_from.Goals as goal

pub loop-at-preserved : goal.loop-at-preserved
loop-at-preserved c =
    let p = one_post c.args.timing.now c.args.members.now c.loop-at.at _ c.spans-posts.result (omega arith) c.spans-posts.ensures in
    let v = c.loop-at.invariant.value in
    record {
      value = omega arith;
      small = omega arith;
    }
