use Rattle.std.proofs.Common.{ℕ, ◌++◌, map, subst}
use Rattle.std.specs.List.{AllByRecursion as Each}
use Rattle.onfi_run.specs.declared.lane.Lane.{Lane}
use Rattle.onfi_run.specs.declared.station.Station.{Station}
use Rattle.onfi_run.specs.Arriving.{comes_at}
use Rattle.onfi_run.specs.Pace.{NeedsNone, due_of}
use Rattle.onfi_run.specs.Resting.{ends_by}
use Rattle.onfi_run.proofs.Resting.{all_rest, all_wait, each_apart}
use Rattle.onfi_run.proofs.simulation.simulate.Goals as goal

pub returns-in-None-next_moment-clause-wait : goal.returns-in-None-next_moment-clause-wait
returns-in-None-next_moment-clause-wait g c at later before =
    let due : Lane g.row.C.Denot → ℕ = λ x. due_of x.pace (g.C.Channel.free x.channel) in
    let comes : Station → ℕ = λ s. comes_at c.args.course.now.rows.now s.passed in
    let none = subst (λ l. Each (NeedsNone c.loop.now) (map due l ++ map comes c.settle.new.stations)) c.as_slice.ensures.value c.in-None-next_moment.ensures in
    all_wait (λ x. g.C.Channel.free x) c.loop.now at c.settle.new.lanes.items later before c.settle.ensures.wait
    (each_apart (NeedsNone c.loop.now) (map due c.settle.new.lanes.items) (map comes c.settle.new.stations) none).0

pub returns-in-None-next_moment-clause-rest : goal.returns-in-None-next_moment-clause-rest
returns-in-None-next_moment-clause-rest g c at later before =
    let due : Lane g.row.C.Denot → ℕ = λ x. due_of x.pace (g.C.Channel.free x.channel) in
    let rows = c.args.course.now.rows.now in
    let comes : Station → ℕ = λ s. comes_at rows s.passed in
    let none = each_apart (NeedsNone c.loop.now) (map due c.as_slice.result.now) (map comes c.settle.new.stations) c.in-None-next_moment.ensures in
    all_rest c.loop.now at rows (ends_by (map (λ l. l.pace) c.settle.new.lanes.items)) c.settle.new.stations later before c.settle.ensures.rest none.1

pub returns-in-None-next_moment-clause-over : goal.returns-in-None-next_moment-clause-over
returns-in-None-next_moment-clause-over g c all = c.settle.ensures.over (c.loop.invariant.2 all)
