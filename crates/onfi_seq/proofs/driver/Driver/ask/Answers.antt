use Rattle.std.proofs.Common.{◌≡◌, true, refl, sym, ap, ◌∙◌}
use Rattle.onfi_chip.specs.Chip.{Chip}
use Rattle.onfi_chip.specs.Chip.{found_ready}
use Rattle.onfi_core.specs.Steps.{IsPromised, none_left}
use Rattle.onfi_core.specs.View.{HalfView}
use Rattle.onfi_seq.specs.Driver.{DriverFields}
use Rattle.onfi_seq.proofs.Driving.{outside}
use Rattle.onfi_seq.proofs.Passing.{driven_readied, none_refused, readied_none}
use Rattle.onfi_seq.proofs.driver.Driver.ask.Goals as goal

pub invariant_of-self : goal.invariant_of-self
invariant_of-self g c =
    let f = c.self.inside in
    let chip = g.C.Chip.state f.chip in
    let new = g.C.Chip.state c.poll-said.new.chip in
    let open' = none_refused _ c.refuses_ready.result c.refuses_ready.ensures (sym c.if-is_some.ensures) in
    let found = c.if-said.ensures.ready refl ∙ ap (λ n. found_ready chip c.args.lun n) c.bus_free-now.ensures in
    driven_readied f.half c.ready.new.self chip new c.args.lun open' c.ready.ensures.readied found
    (IsPromised g.P.Planner.exact g.P.Planner.certifies) f.lanes c.poll-said.new.self c.self.invariant c.if-said.ensures.agree

pub returns-then-said-clause-phases : goal.returns-then-said-clause-phases
returns-then-said-clause-phases g c =
    let f = c.self.inside in
    let new = c.ready.new.self in
    let is : none_left new.state ≡ true → none_left f.half.state ≡ true =
    λ over. readied_none c.args.lun f.half.state (sym (ap (λ (v : HalfView). none_left v.state) c.ready.ensures.readied) ∙ over) in
    outside g.C.Chip.state (λ (v : DriverFields) (x : Chip). none_left new.state ≡ true → none_left v.half ≡ true) _ _ c.self.view_is is
