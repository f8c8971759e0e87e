use Rattle.std.proofs.Common.{◌≡◌, ◌<◌, true, subst}
use Rattle.onfi_chip.specs.Chip.{Chip}
use Rattle.onfi_core.specs.State.{ChannelState, quiet}
use Rattle.onfi_core.specs.Steps.{IsPromised, none_left}
use Rattle.onfi_seq.specs.Driver.{DriverFields, WaitsUntil}
use Rattle.onfi_seq.proofs.Driving.{outside}
use Rattle.onfi_seq.proofs.Passing.{driven_waited, waited_luns, waited_phases, waits_until}
use Rattle.onfi_seq.proofs.driver.Driver.wait.Goals as goal

pub invariant_of-self : goal.invariant_of-self
invariant_of-self g c =
    let f = c.self.inside in
    let e = c.wait-waited.ensures in
    driven_waited f.half c.wait-waited.new.self (g.C.Chip.state f.chip) c.args.now c.wait-waited.result e.waited e.refused e.unchanged
    (IsPromised g.P.Planner.exact g.P.Planner.certifies) f.lanes c.self.invariant e.settled e.setup

pub returns-then-bus_free-now-clause-waited : goal.returns-then-bus_free-now-clause-waited
returns-then-bus_free-now-clause-waited g c =
    let f = c.self.inside in
    let e = c.wait-waited.ensures in
    let chip = g.C.Chip.state f.chip in
    let before = subst (λ n. n < c.args.now) c.bus_free.ensures c.if-bus_free-now.true in
    let is = waits_until f.half c.wait-waited.new.self chip c.args.now c.wait-waited.result e.waited e.refused e.unchanged before in
    let new : ChannelState = quiet c.wait-waited.new.self.state chip in
    outside g.C.Chip.state (λ (v : DriverFields) (x : Chip). WaitsUntil c.args.now v.setup (quiet v.half x) new) _ _ c.self.view_is is

pub returns-then-bus_free-now-clause-luns : goal.returns-then-bus_free-now-clause-luns
returns-then-bus_free-now-clause-luns g c =
    let f = c.self.inside in
    let e = c.wait-waited.ensures in
    let new = c.wait-waited.new.self in
    let is = waited_luns f.half new c.args.now c.wait-waited.result e.waited e.unchanged in
    outside g.C.Chip.state (λ (v : DriverFields) (x : Chip). new.state.now.luns ≡ v.half.now.luns) _ _ c.self.view_is is

pub returns-then-bus_free-now-clause-phases : goal.returns-then-bus_free-now-clause-phases
returns-then-bus_free-now-clause-phases g c =
    let f = c.self.inside in
    let e = c.wait-waited.ensures in
    let new = c.wait-waited.new.self in
    let is = waited_phases f.half new c.args.now c.wait-waited.result e.waited e.unchanged in
    outside g.C.Chip.state (λ (v : DriverFields) (x : Chip). none_left new.state ≡ true → none_left v.half ≡ true) _ _ c.self.view_is is
