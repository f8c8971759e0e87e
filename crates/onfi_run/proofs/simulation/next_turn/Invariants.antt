use Rattle.std.proofs.Common.{map, take}
use Rattle.onfi_run.specs.Pace.{IsNext, due_of}
use Rattle.onfi_run.proofs.simulation.next_turn.Given as goal

abbrev pub invariant-loop-lane : goal.invariant-loop-lane
invariant-loop-lane g l = IsNext l.now (take l.lane-index (map (λ x. due_of x.pace (g.C.Channel.free x.channel)) l.lanes)) l.next
