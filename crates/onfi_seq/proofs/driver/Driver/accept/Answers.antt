use Rattle.std.proofs.Common.{◌≡◌, None}
use Rattle.onfi_core.specs.Steps.{IsPromised, accept_refusal}
use Rattle.onfi_core.specs.View.{IsNext}
use Rattle.onfi_seq.specs.Driver.{DriverFields}
use Rattle.onfi_seq.proofs.Driving.{driven_accepting, within}
use Rattle.onfi_seq.proofs.driver.Driver.accept.Goals as goal

pub invariant_of-self : goal.invariant_of-self
invariant_of-self g c =
    let f = c.self.inside in
    let room = within (λ (v : DriverFields). accept_refusal v.half ≡ None) _ _ c.self.view_is c.requires.open in
    let next = within (λ (v : DriverFields). IsNext v.setup v.half c.args.item) _ _ c.self.view_is c.requires.next in
    rw c.accept.ensures.accepted (driven_accepting (IsPromised g.P.Planner.exact g.P.Planner.certifies) f.half.setup f.half.lent f.half.state (g.C.Chip.state f.chip) f.lanes c.args.item room next c.self.invariant)
