use Rattle.onfi_core.specs.Steps.{IsPromised}
use Rattle.onfi_seq.proofs.Driving.{driven_opened}
use Rattle.onfi_seq.proofs.driver.Driver.open.Goals as goal

pub invariant_of-result : goal.invariant_of-result
invariant_of-result g c = driven_opened (IsPromised g.P.Planner.exact g.P.Planner.certifies) c.args.setup c.in_ok-half.half (g.C.Chip.state c.args.chip) c.in_ok-lanes.lanes c.in_ok-half.ensures c.requires c.in_ok-lanes.ensures
