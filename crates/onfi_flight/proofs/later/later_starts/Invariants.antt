use Rattle.std.proofs.Common.{◌≡◌, ◌≤◌, length, take}
use Rattle.onfi_flight.specs.Times.{later_starts}
use Rattle.onfi_flight.proofs.later.later_starts.Given as goal

abbrev pub invariant-loop-start : goal.invariant-loop-start
invariant-loop-start l = (l.all ≡ later_starts l.by (take l.start-index l.start-items)) × (length l.all ≤ l.start-index)
