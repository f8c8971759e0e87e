use Rattle.onfi_group.proofs.Masks.{Found}
use Rattle.onfi_group.proofs.listing.candidates.Given as goal

abbrev pub invariant-loop-want : goal.invariant-loop-want
invariant-loop-want l = Found l.rules l.wants l.lun l.want-index l.groups.items
