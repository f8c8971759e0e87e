use Rattle.std.proofs.Common.{◌↔◌, drop}
use Rattle.onfi_schedule.specs.Conditions.{HoldersEnd}
use Rattle.onfi_schedule.proofs.block_order.holder_not_before.Given as goal

abbrev pub invariant-loop-group : goal.invariant-loop-group
invariant-loop-group l = HoldersEnd l.timing l.groups l.first l.second (drop l.group-index l.groups) ↔ HoldersEnd l.timing l.groups l.first l.second l.groups
