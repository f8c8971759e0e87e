use Rattle.std.proofs.Common.{◌≡◌, drop}
use Rattle.onfi_planners.specs.Cost.{weight_of}
use Rattle.onfi_planners.proofs.cost.weight_of.Given as goal

abbrev pub invariant-loop-at : goal.invariant-loop-at
invariant-loop-at l = weight_of (drop l.at l.wants) (drop l.at l.weights) l.id ≡ weight_of l.wants l.weights l.id
