use Rattle.std.proofs.Common.{◌≡◌, take}
use Rattle.onfi_bound.specs.Bounds.{on_lun}
use Rattle.onfi_bound.specs.Parts.{plane_counts}
use Rattle.onfi_bound.proofs.waits.counts_of_planes.Given as goal

abbrev pub invariant-loop-other : goal.invariant-loop-other
invariant-loop-other l = l.counts ≡ plane_counts l.rules l.want (on_lun l.want.lun (take l.other-index l.before))
