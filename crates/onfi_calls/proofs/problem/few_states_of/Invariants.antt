use Rattle.std.proofs.Common.{◌≡◌, map, take}
use Rattle.onfi_problem.specs.declared.lun_state.LunState.TheVariants.{Free}
use Rattle.onfi_calls.specs.Problem.{state_of}
use Rattle.onfi_calls.specs.PlainSchedule.{filled}
use Rattle.onfi_calls.proofs.problem.few_states_of.Given as goal

abbrev pub invariant-loop-at : goal.invariant-loop-at
invariant-loop-at l = l.states ≡ filled 8 (Free 0) (map (state_of l.plane_bits) (take l.at l.said))
