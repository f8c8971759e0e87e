use Rattle.onfi_lun.proofs.LunMoves.{opened_agree}
use Rattle.onfi_lun.proofs.lanes.Lanes.open.Goals as goal

pub returns : goal.returns
returns c chip opened = opened_agree c.args.count c.in_ok-idle_luns.field-0.items c.in_ok-idle_luns.ensures chip opened
