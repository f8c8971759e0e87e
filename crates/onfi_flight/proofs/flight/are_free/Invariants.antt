use Rattle.std.proofs.Common.{◌↔◌, drop}
use Rattle.std.specs.List.{AllByRecursion as Each}
use Rattle.onfi_flight.specs.Flight.{IsFree}
use Rattle.onfi_flight.proofs.flight.are_free.Given as goal

abbrev pub invariant-loop-state : goal.invariant-loop-state
invariant-loop-state l = Each IsFree (drop l.state-index l.luns) ↔ Each IsFree l.luns
