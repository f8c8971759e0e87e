-- The schedule that a search begins with: again and again the move that may start first; among equals the one that
-- starts the most wants; among those the first.
use Rattle.std.specs.Prelude.{◌≡◌, ℕ, ◌<◌, ◌==◌, ◌⊎◌, nat_lt, Bool, if◌then◌else◌, List, [], ◌∷◌, length}
use Rattle.onfi_problem.specs.Problem.{Problem}
use Rattle.onfi_problem.specs.Moves.{Move, Next, Start, IsMove, IsDone, ComesBefore, earliest, after}
use Rattle.onfi_schedule.specs.Runs.{Step}

-- a next phase starts none
abbrev pub wants_started : Move → ℕ
wants_started (Next lun) = 0
wants_started (Start group) = length group

-- m may start before n, or as soon and starts more wants
abbrev pub starts_before : Problem → Move → Move → Bool
starts_before p m n = if earliest p m == earliest p n then nat_lt (wants_started n) (wants_started m) else nat_lt (earliest p m) (earliest p n)

-- m is taken before n
abbrev pub GoesFirst : Problem → Move → Move → Type 0
GoesFirst p m n = (earliest p m < earliest p n) ⊎ ((earliest p m ≡ earliest p n) × ((wants_started n < wants_started m) ⊎ ((wants_started m ≡ wants_started n) × ComesBefore p m n)))

-- the move that is taken before all others
pub record IsFirstChoice (p : Problem) (m : Move) : Type 0 where
  pub is_move : IsMove p m
  pub first : (n : Move) → IsMove p n → (n ≡ m) ⊎ GoesFirst p m n

-- the steps of the first schedule, each at its earliest, and when it ends
abbrev pub IsFirstRun : Problem → List Step → ℕ → Type 0
IsFirstRun p [] finish = IsDone p × (p.bus_free ≡ finish)
IsFirstRun p (s ∷ steps) finish = IsFirstChoice p s.move × (s.start ≡ earliest p s.move) × IsFirstRun (after p s.move) steps finish

-- the first schedule ends at f
abbrev pub EndsFirstRun : Problem → ℕ → Type 0
EndsFirstRun p f = (steps : List Step) × IsFirstRun p steps f
