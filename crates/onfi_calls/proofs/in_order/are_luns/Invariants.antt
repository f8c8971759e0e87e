use Rattle.std.proofs.Common.{drop}
use Rattle.onfi_problem.specs.Checks.{AreLuns}
use Rattle.onfi_calls.specs.Problem.{states_of}
use Rattle.onfi_calls.proofs.in_order.are_luns.Given as goal

abbrev pub invariant-loop-at : goal.invariant-loop-at
invariant-loop-at l = AreLuns l.rules l.at (states_of l.rules.plane_bits (drop l.at l.luns)) → AreLuns l.rules 0 (states_of l.rules.plane_bits l.luns)
