use Rattle.std.proofs.Common.{◌↔◌, drop}
use Rattle.std.specs.List.{AllByRecursion as All}
use Rattle.onfi_schedule.specs.Conditions.{MembersAmong}
use Rattle.onfi_schedule.proofs.shape.find_unknown.Given as goal

abbrev pub invariant-loop-group : goal.invariant-loop-group
invariant-loop-group l = All (MembersAmong l.wants) (drop l.group-index l.groups) ↔ All (MembersAmong l.wants) l.groups
