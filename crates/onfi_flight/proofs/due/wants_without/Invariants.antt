use Rattle.std.proofs.Common.{◌≡◌, ◌≤◌, length, take}
use Rattle.onfi_problem.specs.Moves.{without}
use Rattle.onfi_flight.proofs.due.wants_without.Given as goal

abbrev pub invariant-loop-want : goal.invariant-loop-want
invariant-loop-want l = (l.left.items ≡ without l.group (take l.want-index l.wants)) × (length l.left.items ≤ l.want-index)
