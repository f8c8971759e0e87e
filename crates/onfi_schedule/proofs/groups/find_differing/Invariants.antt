use Rattle.std.proofs.Common.{◌↔◌, drop}
use Rattle.std.specs.List.{AllByRecursion as All}
use Rattle.onfi_group.specs.Joining.{GoesWith}
use Rattle.onfi_schedule.proofs.groups.find_differing.Given as goal

abbrev pub invariant-loop-member : goal.invariant-loop-member
invariant-loop-member l = All (GoesWith l.rules l.first) (drop l.member-index l.members) ↔ All (GoesWith l.rules l.first) l.members
