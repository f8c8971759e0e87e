use Rattle.std.proofs.Common.{◌≡◌, map, take}
use Rattle.onfi_calls.specs.Problem.{want_of}
use Rattle.onfi_calls.proofs.problem.wants_of.Given as goal

abbrev pub invariant-loop-want : goal.invariant-loop-want
invariant-loop-want l = l.wants.items ≡ map (want_of l.plane_bits) (take l.want-index l.said)
