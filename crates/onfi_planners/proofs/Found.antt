-- What a walk finds below a node.
use Rattle.std.proofs.Common.{◌≡◌, ◌<◌, ◌^◌, true, List, [], length, sym}
use Rattle.std.proofs.lemmas.Bool.{false≢true}
use Rattle.onfi_problem.specs.Moves.{AreMoves}
use Rattle.onfi_problem.specs.Left.{InLimits}
use Rattle.onfi_problem.specs.declared.moves.Move.{Move as KeptMove}
use Rattle.onfi_problem.specs.Position.{Position, move_of, moved, moves_of}
use Rattle.onfi_problem.proofs.Limits.{after_limits}
use Rattle.onfi_bound.specs.declared.loads.Loads.{Loads}
use Rattle.onfi_bound.proofs.Loading.{loads_after}
use Rattle.onfi_planner.specs.declared.search.Best.{Best}
use Rattle.onfi_known_plan.specs.Steps.{IsStep}
use Rattle.onfi_known_plan.proofs.Node.{done_run}
use Rattle.onfi_planners.specs.Steps.{IsFound, IsWalk}

-- nothing is left
pub at_end : (x : Position) (items : List KeptMove) (old new : Best) → InLimits x.problem → AreMoves x.problem (moves_of x.groups items) → length items ≡ 0 → new.finish ≡ x.problem.bus_free → new.finish < 2 ^ 62 → new.steps.items ≡ [] → IsFound x old new true
at_end x items old new limits are none end small steps = record {
  run = λ q. done_run x items new.steps.items new.finish limits.problem are none steps end;
  small = λ q. small;
  kept = λ q. absurd (false≢true (sym q));
}

-- after a step
pub walk_moved : (x : Position) (step : KeptMove) (loads : Loads) → IsStep x step → IsWalk x loads → IsWalk (moved x step) loads
walk_moved x step loads s w = record { limits = after_limits x.problem (move_of x.groups step) w.limits s.move; are_loads = loads_after x step loads.of.items s.move w.are_loads }
