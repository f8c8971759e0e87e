use Rattle.std.proofs.Common.{◌≤◌, length, ◌≡◌}
use Rattle.std.specs.List.{All}
use Rattle.onfi_planners.proofs.weighing.Ages.weights_of_wants.Given as goal

abbrev pub invariant-loop-at : goal.invariant-loop-at
invariant-loop-at l = All (λ w. 1 ≤ w) l.weights
