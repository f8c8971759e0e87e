use Rattle.onfi_chip.specs.Chip.{Chip}
use Rattle.onfi_core.specs.Steps.{IsPromised}
use Rattle.onfi_seq.specs.Driver.{DriverFields, StartsNext}
use Rattle.onfi_seq.proofs.Driving.{outside, starts_next}
use Rattle.onfi_seq.proofs.driver.Driver.next_start.Goals as goal

pub returns-in-Ok-clause-some : goal.returns-in-Ok-clause-some
returns-in-Ok-clause-some g c =
    let f = c.self.inside in
    outside g.C.Chip.state (λ (v : DriverFields) (chip : Chip). StartsNext v.half c.in-Ok.due.start) _ _ c.self.view_is
    (starts_next (IsPromised g.P.Planner.exact g.P.Planner.certifies) f.half.setup f.half.state (g.C.Chip.state f.chip) c.self.invariant.reached c.in-Ok.due c.in-Ok.ensures.due)
