use Rattle.std.proofs.Common.{arith}
use Rattle.onfi_chip.specs.Chip.{Chip}
use Rattle.onfi_core.specs.Dues.{IsDue}
use Rattle.onfi_core.specs.Steps.{IsPromised}
use Rattle.onfi_seq.specs.Driver.{DriverFields, StartsNext}
use Rattle.onfi_seq.proofs.Driving.{due_time, outside, runs_by, starts_next, within}
use Rattle.onfi_seq.proofs.driver.Driver.run_by.Goals as goal

pub returns-then-start-now-clause-by_now : goal.returns-then-start-now-clause-by_now
returns-then-start-now-clause-by_now g c =
    let f = c.self.inside in
    let is = within (λ (v : DriverFields). IsDue v.half c.args.due) _ _ c.self.view_is c.requires.due in
    let next = outside g.C.Chip.state (λ (v : DriverFields) (chip : Chip). StartsNext v.half c.args.due.start) _ _ c.self.view_is (starts_next (IsPromised g.P.Planner.exact g.P.Planner.certifies) f.half.setup f.half.state (g.C.Chip.state f.chip) c.self.invariant.reached c.args.due is) in
    (next, c.if-start-now.true, due_time (IsPromised g.P.Planner.exact g.P.Planner.certifies) f.half.setup f.half.state (g.C.Chip.state f.chip) c.self.invariant.reached c.args.due is)

pub returns-clause-by_now : goal.returns-clause-by_now
returns-clause-by_now g c =
    let f = c.self.inside in
    let is = within (λ (v : DriverFields). IsDue v.half c.args.due) _ _ c.self.view_is c.requires.due in
    let next = outside g.C.Chip.state (λ (v : DriverFields) (chip : Chip). StartsNext v.half c.args.due.start) _ _ c.self.view_is (starts_next (IsPromised g.P.Planner.exact g.P.Planner.certifies) f.half.setup f.half.state (g.C.Chip.state f.chip) c.self.invariant.reached c.args.due is) in
    let low = c.if-start-now.false in
    runs_by c.args.now _ c.args.due.start c.run_due.result next (omega (arith, low)) c.run_due.ensures.start
