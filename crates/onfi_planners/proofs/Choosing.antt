-- What a planner promises that is chosen as a program runs.
use Rattle.std.proofs.Common.{◌≡◌, ◌≢◌, ℕ, Some, None, refl, sym, subst}
use Rattle.std.specs.Prelude.{Option}
use Rattle.onfi_problem.specs.Position.{Position}
use Rattle.onfi_plan.specs.declared.plan.Plan.{Plan}
use Rattle.onfi_planners.specs.Choice.{IsChosen, IsEarly, IsMadeFrom, IsPlannedBy}
use Rattle.onfi_planners.specs.Weighing.{AreWeights}
use Rattle.onfi_planners.specs.declared.chosen.ChosenPlanner.{ChosenPlanner}
use Rattle.onfi_planners.specs.declared.chosen.Early.{Early}
use Rattle.onfi_planners.specs.declared.weights.Weights.{Weights}

-- nothing is asked for where none is given
pub none_given : (given : Option Early) → ((early : Early) → given ≢ Some early) → given ≡ None
none_given None isnt = refl
none_given (Some early) isnt = absurd (isnt early refl)

-- the plan as it was found
pub as_found : (planner : ChosenPlanner) (x : Position) (limit : ℕ) (plan : Plan) → planner.early ≡ None → IsPlannedBy planner.by x limit plan → IsChosen planner x limit plan
as_found planner x limit plan none planned = record { first = plan; planned = planned; early = subst (λ e. IsEarly e x plan plan) (sym none) refl }

-- .. made better
pub made_better : (planner : ChosenPlanner) (x : Position) (limit : ℕ) (first plan : Plan) (early : Early) (weights : Weights) → planner.early ≡ Some early → IsPlannedBy planner.by x limit first
    → AreWeights early.weighing weights → IsMadeFrom weights x first plan → (early.nodes ≡ 0 → plan ≡ first) → IsChosen planner x limit plan
made_better planner x limit first plan early weights some planned weighed made as_is = record {
  first = first;
  planned = planned;
  early = subst (λ e. IsEarly e x first plan) (sym some) (record { weights = weights; weighed = weighed; made = made; as_is = as_is });
}
