use Rattle.std.proofs.Common.{◌≡◌, ◌≤◌, length, take}
use Rattle.onfi_problem.specs.Position.{waiting_of}
use Rattle.onfi_flight.proofs.flight.waiting.Given as goal

abbrev pub invariant-loop-i : goal.invariant-loop-i
invariant-loop-i l = record {
  wants : l.wants.items ≡ waiting_of l.marks (take l.i l.all);
  few : length l.wants.items ≤ l.i;
}
