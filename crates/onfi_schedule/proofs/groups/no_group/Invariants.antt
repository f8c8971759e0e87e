use Rattle.std.proofs.Common.{◌↔◌, drop}
use Rattle.std.specs.List.{AllByRecursion as All}
use Rattle.onfi_group.specs.Group.{IsGroup}
use Rattle.onfi_schedule.specs.Schedule.{Placed}
use Rattle.onfi_schedule.proofs.groups.no_group.Given as goal

abbrev pub invariant-loop-group : goal.invariant-loop-group
invariant-loop-group l = let Ok : Placed → Type 0 = λ g. IsGroup l.rules g.members in All Ok (drop l.group-index l.groups) ↔ All Ok l.groups
