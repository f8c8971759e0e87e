-- Runs: phases one after another, each a move of the problem as it then stands, no earlier than it may.
use Rattle.std.specs.Prelude.{◌≡◌, ℕ, ◌≤◌, List, [], ◌∷◌, map}
use Rattle.onfi_problem.specs.Problem.{Problem}
use Rattle.onfi_problem.specs.Moves.{Move, IsMove, earliest, placed, IsDone}
use Rattle.onfi_schedule.specs.Schedule.{Schedule, with_first}

-- a move, and when its phase starts
pub record Step : Type 0 where
  pub move : Move
  pub start : ℕ

-- the steps use up all that is left, and the last phase ends at `finish`
abbrev pub Run : Problem → List Step → ℕ → Type 0
Run p [] finish = IsDone p × (p.bus_free ≡ finish)
Run p (s ∷ steps) finish = IsMove p s.move × (earliest p s.move ≤ s.start) × Run (placed p s.move s.start) steps finish

-- no group, and nothing left of running ones
abbrev pub empty : Problem → Schedule
empty p = record { rest = map (λ _. []) p.luns; groups = [] }

-- the schedule of a run's starts
abbrev pub schedule_of : Problem → List Step → Schedule
schedule_of p [] = empty p
schedule_of p (s ∷ steps) = with_first s.move s.start (schedule_of (placed p s.move s.start) steps)
