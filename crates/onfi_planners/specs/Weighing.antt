-- How much requests count where a plan is made better.
use Rattle.std.specs.Prelude.{◌≡◌, ◌≤◌, ℕ, replicate}
use Rattle.std.specs.List.{All}
use Rattle.onfi_planners.specs.declared.weighing.Weighing.{Weighing}
use Rattle.onfi_planners.specs.declared.weighing.Weighing.TheVariants.{ByAge, Equal}
use Rattle.onfi_planners.specs.declared.weights.Weights.{Weights}

-- each counts as any other; by age each counts something
abbrev pub AreWeights : Weighing → Weights → Type 0
AreWeights Equal weights = weights ≡ record { wants = replicate 8 1; running = replicate 8 (replicate 4 1) }
AreWeights ByAge weights = All (λ w. 1 ≤ w) weights.wants × All (All (λ w. 1 ≤ w)) weights.running
