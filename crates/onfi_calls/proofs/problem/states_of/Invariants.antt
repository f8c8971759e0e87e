use Rattle.std.proofs.Common.{◌≡◌, map, take}
use Rattle.onfi_calls.specs.Problem.{state_of}
use Rattle.onfi_calls.proofs.problem.states_of.Given as goal

abbrev pub invariant-loop-lun : goal.invariant-loop-lun
invariant-loop-lun l = l.states.items ≡ map (state_of l.plane_bits) (take l.lun-index l.said)
