use Rattle.std.proofs.Common.{◌≡◌, take}
use Rattle.onfi_steady.specs.Ranks.{least_number, first_number}
use Rattle.onfi_steady.proofs.own.oldest.Given as goal

abbrev pub invariant-loop-member : goal.invariant-loop-member
invariant-loop-member l = l.least ≡ least_number (first_number l.members) (take l.member-index l.members)
