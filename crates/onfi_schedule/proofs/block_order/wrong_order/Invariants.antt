use Rattle.std.proofs.Common.{◌↔◌, drop}
use Rattle.onfi_group.specs.Words.{Pairs}
use Rattle.onfi_schedule.specs.Conditions.{InBlockOrder}
use Rattle.onfi_schedule.proofs.block_order.wrong_order.Given as goal

abbrev pub invariant-loop-at : goal.invariant-loop-at
invariant-loop-at l = Pairs (InBlockOrder l.timing l.groups) (drop l.at l.wants) ↔ Pairs (InBlockOrder l.timing l.groups) l.wants
