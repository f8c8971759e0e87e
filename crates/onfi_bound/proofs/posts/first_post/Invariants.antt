use Rattle.std.proofs.Common.{◌≡◌, drop}
use Rattle.onfi_bound.specs.Bounds.{earlier, least}
use Rattle.onfi_bound.specs.Parts.{chain_starts}
use Rattle.onfi_bound.proofs.posts.first_post.Given as goal

abbrev pub invariant-loop-lun : goal.invariant-loop-lun
invariant-loop-lun l = earlier l.first (least (chain_starts l.timing l.bus_free l.wants l.lun (drop l.lun l.chains))) ≡ least (chain_starts l.timing l.bus_free l.wants 0 l.chains)
