use Rattle.std.proofs.Common.{◌<◌, arith}
use Rattle.onfi_demand.proofs.Seeing.{work_small}
use Rattle.onfi_demand.proofs.look.Sight.of.Goals as goal

pub see-seen-requires-clause-short : goal.see-seen-requires-clause-short
see-seen-requires-clause-short c =
    let p = c.args.problem.now.problem in
    let there : c.loop-lun.lun < 8 = omega arith in
    work_small p c.loop-lun.lun _ c.in_limits.ensures.limits (omega arith) (c.requires.work c.loop-lun.lun there)
