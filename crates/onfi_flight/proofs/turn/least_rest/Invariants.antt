use Rattle.std.proofs.Common.{◌<◌, ◌^◌}
use Rattle.std.specs.Prelude.{IfSome}
use Rattle.onfi_flight.specs.Turns.{LeastSoFar}
use Rattle.onfi_flight.proofs.turn.least_rest.Given as goal

abbrev pub invariant-loop-at : goal.invariant-loop-at
invariant-loop-at l = record {
  least : LeastSoFar l.rest l.at l.least;
  time : IfSome l.least (λ s. s.time < 2 ^ 63);
}
