-- When the schedules end that a search begins with.
use Rattle.std.specs.Prelude.{ℕ, ◌≤◌, List}
use Rattle.onfi_check.specs.First.{EndsFirstRun}
use Rattle.onfi_problem.specs.Problem.{Problem}
use Rattle.onfi_schedule.specs.Runs.{Step}
use Rattle.onfi_steady.specs.Rule.{IsRuleRun}

-- it is no later than what the rule makes of the problem
abbrev pub EndsByRule : Problem → ℕ → Type 0
EndsByRule p finish = (steps : List Step) (f : ℕ) → IsRuleRun p steps f → finish ≤ f

-- .. and no later than the first schedule
abbrev pub EndsByFirst : Problem → ℕ → Type 0
EndsByFirst p finish = (first : ℕ) × EndsFirstRun p first × (finish ≤ first)
