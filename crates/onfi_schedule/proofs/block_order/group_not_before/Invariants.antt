use Rattle.std.proofs.Common.{◌↔◌, drop}
use Rattle.onfi_schedule.specs.Conditions.{EndsBefore}
use Rattle.onfi_schedule.proofs.block_order.group_not_before.Given as goal

abbrev pub invariant-loop-other : goal.invariant-loop-other
invariant-loop-other l = EndsBefore l.timing l.group l.want (drop l.other-index l.groups) ↔ EndsBefore l.timing l.group l.want l.groups
