use Rattle.std.proofs.Common.{◌≡◌, take}
use Rattle.onfi_steady.specs.Waiting.{greatest_number}
use Rattle.onfi_steady.proofs.own.greatest_number.Given as goal

abbrev pub invariant-loop-member : goal.invariant-loop-member
invariant-loop-member l = l.greatest ≡ greatest_number 0 (take l.member-index l.members)
