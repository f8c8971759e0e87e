use Rattle.std.proofs.Common.{◌↔◌, ◌-◌, drop}
use Rattle.onfi_group.proofs.Rising.{PlanesRise}
use Rattle.onfi_schedule.proofs.groups.plane_order.Given as goal

abbrev pub invariant-loop-at : goal.invariant-loop-at
invariant-loop-at l = PlanesRise (drop (l.at - 1) l.members) ↔ PlanesRise l.members
