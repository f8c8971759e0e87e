use Rattle.std.proofs.Common.{◌+◌, sym, subst}
use Rattle.onfi_lun.specs.declared.lanes.any_lun.AnyLun.TheVariants.{Idle}
use Rattle.onfi_lun.specs.Lanes.{AreIdle}
use Rattle.onfi_lun.proofs.LunMoves.{idle_more}
use Rattle.onfi_lun.proofs.lanes.idle_luns.Goals as goal

pub loop-number-preserved : goal.loop-number-preserved
loop-number-preserved c =
    let lun = c.new.result in
    subst (AreIdle (c.loop-number.number + 1)) (sym c.in_ok-push.ensures.items) (idle_more c.loop-number.number c.loop-number.luns.items (Idle lun) c.loop-number.invariant c.new.ensures)
