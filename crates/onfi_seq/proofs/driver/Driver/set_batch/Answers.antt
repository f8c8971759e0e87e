use Rattle.onfi_core.specs.Steps.{IsPromised}
use Rattle.onfi_seq.proofs.Driving.{driven_batch}
use Rattle.onfi_seq.proofs.driver.Driver.set_batch.Goals as goal

pub invariant_of-self : goal.invariant_of-self
invariant_of-self g c =
    let f = c.self.inside in
    rw c.set_batch.ensures (driven_batch (IsPromised g.P.Planner.exact g.P.Planner.certifies) f.half.setup f.half.lent f.half.state (g.C.Chip.state f.chip) f.lanes c.args.batch c.requires.some c.requires.few c.self.invariant)
