use Rattle.std.proofs.Common.{◌≡◌, take}
use Rattle.onfi_problem.specs.Left.{latest_wait}
use Rattle.onfi_problem.proofs.horizon.latest_wait.Given as goal

abbrev pub invariant-loop-state : goal.invariant-loop-state
invariant-loop-state l = l.latest ≡ latest_wait l.bus_free (take l.state-index l.luns)
