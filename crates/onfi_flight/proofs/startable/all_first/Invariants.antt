use Rattle.std.proofs.Common.{◌↔◌, drop}
use Rattle.std.specs.List.{AllByRecursion as Each}
use Rattle.onfi_group.specs.Group.{IsFirst}
use Rattle.onfi_flight.proofs.startable.all_first.Given as goal

abbrev pub invariant-loop-member : goal.invariant-loop-member
invariant-loop-member l = Each (IsFirst l.wants) (drop l.member-index l.members) ↔ Each (IsFirst l.wants) l.members
