use Rattle.std.proofs.Common.{◌≡◌, ◌≤◌, length, map, take}
use Rattle.onfi_flight.specs.Times.{later_starts}
use Rattle.onfi_flight.proofs.later.later_rest.Given as goal

abbrev pub invariant-loop-starts : goal.invariant-loop-starts
invariant-loop-starts l = record {
  made : l.later.items ≡ map (later_starts l.by) (take l.starts-index l.rest);
  few : length l.later.items ≤ l.starts-index;
}
