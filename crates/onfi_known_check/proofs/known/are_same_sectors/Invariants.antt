use Rattle.std.proofs.Common.{◌≡◌, take}
use Rattle.onfi_known_check.proofs.known.are_same_sectors.Given as goal

abbrev pub invariant-loop-i : goal.invariant-loop-i
invariant-loop-i l = take l.i l.sectors ≡ take l.i l.others
