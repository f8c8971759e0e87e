use Rattle.std.proofs.Common.{◌≡◌, ◌++◌, take, drop}
use Rattle.onfi_group.specs.Joining.{joined}
use Rattle.onfi_group.proofs.group.place_for.Given as goal

abbrev pub invariant-loop-at : goal.invariant-loop-at
invariant-loop-at l = take l.at l.members ++ joined l.want (drop l.at l.members) ≡ joined l.want l.members
