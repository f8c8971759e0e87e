-- What a walk for a cheaper run stands on and finds.
use Rattle.std.specs.Prelude.{◌≡◌, ◌<◌, ◌^◌, Bool, true, false}
use Rattle.onfi_problem.specs.Left.{InLimits}
use Rattle.onfi_problem.specs.Position.{Position}
use Rattle.onfi_bound.specs.Loads.{AreLoads}
use Rattle.onfi_bound.specs.declared.loads.Loads.{Loads}
use Rattle.onfi_planner.specs.declared.search.Best.{Best}
use Rattle.onfi_known_plan.specs.Walks.{IsRunOf}

-- what a walk stands on
pub record IsWalk (x : Position) (loads : Loads) : Type 0 where
  pub limits : InLimits x.problem
  pub are_loads : AreLoads x loads.of.items

-- a run was found, or the best is as it was
pub record IsFound (x : Position) (old new : Best) (improved : Bool) : Type 0 where
  pub run : improved ≡ true → IsRunOf x new
  pub small : improved ≡ true → new.finish < 2 ^ 62
  pub kept : improved ≡ false → new ≡ old
