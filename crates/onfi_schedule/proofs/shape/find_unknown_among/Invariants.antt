use Rattle.std.proofs.Common.{◌↔◌, drop}
use Rattle.std.specs.List.{AllByRecursion as All}
use Rattle.onfi_group.specs.Words.{Has}
use Rattle.onfi_schedule.proofs.shape.find_unknown_among.Given as goal

abbrev pub invariant-loop-member : goal.invariant-loop-member
invariant-loop-member l = All (Has l.wants) (drop l.member-index l.members) ↔ All (Has l.wants) l.members
