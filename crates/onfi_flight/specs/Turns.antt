-- Which phase has the least start.
use Rattle.std.specs.Prelude.{◌≡◌, ℕ, ◌+◌, ◌<◌, ◌≤◌, ◌⊎◌, List, [], ◌∷◌, length, map, Option, Some, None, slice_get}
use Rattle.onfi_schedule.specs.Schedule.{Placed}
use Rattle.onfi_flight.specs.declared.turn.Start.{Start}
use Rattle.onfi_flight.specs.declared.turn.Turn.{Turn}
use Rattle.onfi_flight.specs.declared.turn.Turn.TheVariants as turn

-- of two starts the sooner, of equals the first
abbrev pub SoonerIs : Option Start → Start → Option Start → Type 0
SoonerIs None start r = r ≡ Some start
SoonerIs (Some old) start r = ((old.time ≤ start.time) × (r ≡ Some old)) ⊎ ((start.time < old.time) × (r ≡ Some start))

-- the sooner of that start and the first of these, which stand at that place
abbrev pub SoonerOf : Option Start → ℕ → List ℕ → Option Start → Type 0
SoonerOf least at [] r = r ≡ least
SoonerOf least at (time ∷ starts) r = SoonerIs least (record { at = at; time = time }) r

-- the one at the place starts then
abbrev pub StartsThere : List (List ℕ) → Start → Type 0
StartsThere lists s = (starts : List ℕ) × (slice_get lists s.at ≡ Some (s.time ∷ starts))

-- of the first n lists none starts sooner, and none before it as soon
pub record LeastOf (lists : List (List ℕ)) (n : ℕ) (s : Start) : Type 0 where
  pub there : StartsThere lists s
  pub within : s.at < n
  pub sooner : (at time : ℕ) (starts : List ℕ) → at < n → slice_get lists at ≡ Some (time ∷ starts) → s.time ≤ time
  pub first : (at : ℕ) (starts : List ℕ) → at < n → slice_get lists at ≡ Some (s.time ∷ starts) → s.at ≤ at

-- of the first n lists of starts, the one whose first start is the least
abbrev pub LeastSoFar : List (List ℕ) → ℕ → Option Start → Type 0
LeastSoFar lists n None = (at : ℕ) (starts : List ℕ) → at < n → slice_get lists at ≡ Some starts → starts ≡ []
LeastSoFar lists n (Some s) = LeastOf lists n s

-- none of them has a start
abbrev pub NoneStart : List (List ℕ) → Type 0
NoneStart lists = (at : ℕ) (starts : List ℕ) → slice_get lists at ≡ Some starts → starts ≡ []

-- none of them starts sooner
abbrev pub NoneSooner : List (List ℕ) → ℕ → Type 0
NoneSooner lists t = (at time : ℕ) (starts : List ℕ) → slice_get lists at ≡ Some (time ∷ starts) → t ≤ time

abbrev pub starts_in : List Placed → List (List ℕ)
starts_in groups = map (λ (g : Placed). g.starts) groups

-- of all that runs and all that isn't started it has the least start; of equals what runs, and of those what stands first
abbrev pub IsTurn : List (List ℕ) → List Placed → Turn → Type 0
IsTurn rest groups (turn.Next s) = LeastOf rest (length rest) s × NoneSooner (starts_in groups) s.time
IsTurn rest groups (turn.First s) = LeastOf (starts_in groups) (length groups) s × NoneSooner rest (s.time + 1)

abbrev pub turn_time : Turn → ℕ
turn_time (turn.Next s) = s.time
turn_time (turn.First s) = s.time
