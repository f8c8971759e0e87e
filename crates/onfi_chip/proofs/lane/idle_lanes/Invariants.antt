use Rattle.std.proofs.Common.{◌≡◌, replicate}
use Rattle.onfi_chip.specs.declared.lane.Lane.TheVariants.{Idle}
use Rattle.onfi_chip.proofs.lane.idle_lanes.Given as goal

abbrev pub invariant-loop-lun : goal.invariant-loop-lun
invariant-loop-lun l = l.lanes.items ≡ replicate l._lun Idle
