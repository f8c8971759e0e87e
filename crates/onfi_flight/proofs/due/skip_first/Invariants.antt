use Rattle.std.proofs.Common.{◌≡◌, take}
use Rattle.onfi_flight.proofs.due.skip_first.Given as goal

abbrev pub invariant-loop-start : goal.invariant-loop-start
invariant-loop-start l = l.later ≡ take l.start-index l.start-items
