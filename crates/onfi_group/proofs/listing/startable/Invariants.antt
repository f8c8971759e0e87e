use Rattle.onfi_group.proofs.Firsts.{Opened}
use Rattle.onfi_group.proofs.listing.startable.Given as goal

abbrev pub invariant-loop-at : goal.invariant-loop-at
invariant-loop-at l = Opened l.rules l.wants l.lun l.at l.groups.items
