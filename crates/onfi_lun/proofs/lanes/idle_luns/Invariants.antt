use Rattle.onfi_lun.specs.Lanes.{AreIdle}
use Rattle.onfi_lun.proofs.lanes.idle_luns.Given as goal

abbrev pub invariant-loop-number : goal.invariant-loop-number
invariant-loop-number l = AreIdle l.number l.luns.items
