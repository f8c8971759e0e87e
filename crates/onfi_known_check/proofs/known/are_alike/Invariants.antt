use Rattle.std.proofs.Common.{◌≡◌, map, take}
use Rattle.onfi_demand.specs.Work.{left_of}
use Rattle.onfi_known_check.proofs.known.are_alike.Given as goal

abbrev pub invariant-loop-i : goal.invariant-loop-i
invariant-loop-i l = map left_of (take l.i l.lefts) ≡ map left_of (take l.i l.others)
