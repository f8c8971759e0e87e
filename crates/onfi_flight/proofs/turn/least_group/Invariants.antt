use Rattle.std.proofs.Common.{◌<◌, ◌^◌}
use Rattle.std.specs.Prelude.{IfSome, map}
use Rattle.onfi_flight.specs.Turns.{LeastSoFar}
use Rattle.onfi_flight.proofs.turn.least_group.Given as goal

abbrev pub invariant-loop-at : goal.invariant-loop-at
invariant-loop-at l = record {
  least : LeastSoFar (map (λ g. g.starts) l.groups) l.at l.least;
  time : IfSome l.least (λ s. s.time < 2 ^ 63);
}
