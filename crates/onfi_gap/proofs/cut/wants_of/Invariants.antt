use Rattle.std.proofs.Common.{◌≡◌, take}
use Rattle.onfi_gap.specs.Cuts.{members_of}
use Rattle.onfi_gap.proofs.cut.wants_of.Given as goal

abbrev pub invariant-loop-group : goal.invariant-loop-group
invariant-loop-group l = l.wants.items ≡ members_of (take l.group-index l.groups)
