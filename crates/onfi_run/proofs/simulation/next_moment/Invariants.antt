use Rattle.std.proofs.Common.{◌++◌, map, take}
use Rattle.onfi_run.specs.Arriving.{comes_at}
use Rattle.onfi_run.specs.Pace.{IsNext, due_of}
use Rattle.onfi_run.proofs.simulation.next_moment.Given as goal

abbrev pub invariant-loop-station : goal.invariant-loop-station
invariant-loop-station g l =
    IsNext l.now (map (λ x. due_of x.pace (g.C.Channel.free x.channel)) l.lanes ++ take l.station-index (map (λ s. comes_at l.rows s.passed) l.stations)) l.next
