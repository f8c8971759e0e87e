use Rattle.std.proofs.Common.{◌↔◌, drop}
use Rattle.std.specs.List.{AllByRecursion as All}
use Rattle.onfi_schedule.specs.Conditions.{InBlockOrder}
use Rattle.onfi_schedule.proofs.block_order.out_of_order_among.Given as goal

abbrev pub invariant-loop-other : goal.invariant-loop-other
invariant-loop-other l = All (InBlockOrder l.timing l.groups l.want) (drop l.other-index l.later) ↔ All (InBlockOrder l.timing l.groups l.want) l.later
