use Rattle.std.proofs.Common.{◌≡◌}
use Rattle.onfi_demand.specs.Kept.{demand_of}
use Rattle.onfi_demand.specs.Asked.{greatest_by}
use Rattle.onfi_demand.proofs.demand.Demand.through_bus.Given as goal

abbrev pub invariant-loop-lun : goal.invariant-loop-lun
invariant-loop-lun l = l.most ≡ greatest_by l.step (demand_of l.self) l.lun
