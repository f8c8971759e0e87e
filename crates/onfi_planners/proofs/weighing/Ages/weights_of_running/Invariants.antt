use Rattle.std.proofs.Common.{◌≤◌}
use Rattle.std.specs.List.{All}
use Rattle.onfi_planners.proofs.weighing.Ages.weights_of_running.Given as goal

abbrev pub invariant-loop-lun : goal.invariant-loop-lun
invariant-loop-lun l = All (All (λ w. 1 ≤ w)) l.weights
