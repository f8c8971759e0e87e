use Rattle.std.specs.Prelude.{map}
use Rattle.onfi_flight.specs.Turns.{LeastSoFar}
use Rattle.onfi_calls.specs.InOrder.{some_start}
use Rattle.onfi_calls.specs.ReadSchedule.{rest_of}
use Rattle.onfi_calls.proofs.least.least_rest.Given as goal

abbrev pub invariant-loop-at : goal.invariant-loop-at
invariant-loop-at l = LeastSoFar (map rest_of l.rests) l.at (some_start l.least)
