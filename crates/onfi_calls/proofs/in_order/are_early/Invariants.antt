use Rattle.std.proofs.Common.{drop}
use Rattle.onfi_calls.specs.InOrder.{AreEarly}
use Rattle.onfi_calls.proofs.in_order.are_early.Given as goal

abbrev pub invariant-loop-lun : goal.invariant-loop-lun
invariant-loop-lun l = AreEarly (drop l.lun-index l.luns) → AreEarly l.luns
