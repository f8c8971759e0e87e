use Rattle.std.proofs.Common.{◌↔◌, drop}
use Rattle.std.specs.List.{AllByRecursion as All}
use Rattle.onfi_schedule.specs.Conditions.{GroupWaits}
use Rattle.onfi_schedule.proofs.waits.in_groups.Given as goal

abbrev pub invariant-loop-group : goal.invariant-loop-group
invariant-loop-group l = All (GroupWaits l.timing) (drop l.group-index l.groups) ↔ All (GroupWaits l.timing) l.groups
