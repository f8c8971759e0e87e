use Rattle.std.proofs.Common.{◌≡◌, length}
use Rattle.onfi_group.proofs.Growing.{Grows}
use Rattle.onfi_group.proofs.listing.grow.Given as goal

abbrev pub invariant-loop-at : goal.invariant-loop-at
invariant-loop-at l = record {
  before : l.before ≡ length l.fn.groups.items;
  grows : Grows l.rules l.want l.fn.groups.items l.at l.groups.items;
}
