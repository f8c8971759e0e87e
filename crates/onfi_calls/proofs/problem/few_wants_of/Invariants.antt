use Rattle.std.proofs.Common.{◌≡◌, ◌≤◌, length, map, take}
use Rattle.onfi_calls.specs.Problem.{want_of}
use Rattle.onfi_calls.proofs.problem.few_wants_of.Given as goal

abbrev pub invariant-loop-want : goal.invariant-loop-want
invariant-loop-want l = record {
  made : l.wants.items ≡ map (want_of l.plane_bits) (take l.want-index l.said);
  few : length l.wants.items ≤ l.want-index;
}
