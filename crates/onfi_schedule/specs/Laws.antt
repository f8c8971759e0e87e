-- Laws of legal schedules and of runs.
use Rattle.std.specs.Prelude.{◌≡◌, ◌≢◌, ◌↔◌, ℕ, ◌≤◌, Bool, List, [], ◌∷◌, ◌++◌, Some, slice_set}
use Rattle.std.specs.List.{AllByRecursion as Each}
use Rattle.onfi_group.specs.Group.{lun_of}
use Rattle.onfi_problem.specs.Problem.{Problem, IsProblem}
use Rattle.onfi_problem.specs.Moves.{Move, Next, Start, IsMove, move_lun, earliest, placed, after, IsDone}
use Rattle.onfi_schedule.specs.Schedule.{Placed, Schedule, Legal, finish, phases, rest_of, with_first}
use Rattle.onfi_schedule.specs.Runs.{Step, Run, schedule_of}
use Rattle.onfi_schedule.specs.Trace.{IsTrace}

-- the schedule begins with the move's phase at `start`, and these are the others
abbrev pub Begins : Schedule → Move → ℕ → Schedule → Type 0
Begins s (Next lun) start left =
    (starts : List ℕ) × (rest_of s lun ≡ Some (start ∷ starts)) × (left ≡ record { rest = slice_set s.rest lun starts; groups = s.groups })
Begins s (Start group) start left =
    (starts : List ℕ) × (before : List Placed) × (behind : List Placed)
    × (s.groups ≡ before ++ record { members = group; starts = start ∷ starts } ∷ behind)
    × (left ≡ record { rest = slice_set s.rest (lun_of group) starts; groups = before ++ behind })

-- the phase of least start
pub record ComesNext (p : Problem) (s : Schedule) (move : Move) (start : ℕ) (left : Schedule) : Type 0 where
  pub begins : Begins s move start left
  pub least : Each (λ x. start ≤ x.start) (phases p s)

-- that phase is a move of the problem, and the others are legal after it: at its own start, and at its earliest
pub record IsFirstMove (p : Problem) (s : Schedule) (move : Move) (start : ℕ) (left : Schedule) : Type 0 where
  pub is_move : IsMove p move
  pub on_time : earliest p move ≤ start
  pub problem : IsProblem (placed p move start)
  pub legal : Legal (placed p move start) left
  pub same_finish : finish (placed p move start) left ≡ finish p s
  pub legal_at_earliest : Legal (after p move) left
  pub no_later : finish (after p move) left ≤ finish p s

-- the phase of least start of a legal schedule is that of a move
abbrev pub FirstMoveLaw : Type 0
FirstMoveLaw = (p : Problem) (s : Schedule) (move : Move) (start : ℕ) (left : Schedule) → IsProblem p → Legal p s → ComesNext p s move start left → IsFirstMove p s move start left

-- where something is left there is one
abbrev pub NextLaw : Type 0
NextLaw = (p : Problem) (s : Schedule) → IsProblem p → Legal p s → (IsDone p → ⊥) → (move : Move) × (start : ℕ) × (left : Schedule) × ComesNext p s move start left

-- nothing is left exactly where no phase is
abbrev pub DoneLaw : Type 0
DoneLaw = (p : Problem) (s : Schedule) → IsProblem p → Legal p s → IsDone p ↔ (phases p s ≡ [])

-- what is legal in a problem is legal in one whose times are earlier, and ends no later
abbrev pub EarlierLaw : Type 0
EarlierLaw = (p : Problem) (move : Move) (sooner later : ℕ) (s : Schedule) → IsMove p move → sooner ≤ later → Legal (placed p move later) s → Legal (placed p move sooner) s × (finish (placed p move sooner) s ≤ finish (placed p move later) s)

-- a legal schedule after a move, with the move's phase put before it, is legal and ends when it did
abbrev pub MoveBackLaw : Type 0
MoveBackLaw = (p : Problem) (move : Move) (start : ℕ) (s : Schedule) → IsProblem p → IsMove p move → earliest p move ≤ start → Legal (placed p move start) s → Legal p (with_first move start s) × (finish p (with_first move start s) ≡ finish (placed p move start) s)

-- a legal schedule is a run to its finish
abbrev pub LegalRunLaw : Type 0
LegalRunLaw = (p : Problem) (s : Schedule) → IsProblem p → Legal p s → (steps : List Step) × Run p steps (finish p s)

-- a run is a legal schedule that ends when it does
abbrev pub RunLegalLaw : Type 0
RunLegalLaw = (p : Problem) (steps : List Step) (end : ℕ) → IsProblem p → Run p steps end → Legal p (schedule_of p steps) × (finish p (schedule_of p steps) ≡ end)

-- a run that begins with a move of this LUN at its earliest, and ends no later
pub record RunsFirst (p : Problem) (lun end : ℕ) : Type 0 where
  pub move : Move
  pub is_move : IsMove p move
  pub of_lun : move_lun move ≡ lun
  pub steps : List Step
  pub finish : ℕ
  pub no_later : finish ≤ end
  pub run : Run (after p move) steps finish

-- a move may yield to another LUN that has a move, where each move of that LUN would end before this one's phase may
-- start: some run that begins with one of those moves ends no later
abbrev pub YieldLaw : Type 0
YieldLaw = (p : Problem) (move other : Move) (start lun end : ℕ) (steps : List Step) → IsProblem p → IsMove p move → earliest p move ≤ start → Run (placed p move start) steps end → lun ≢ move_lun move → IsMove p other → move_lun other ≡ lun → ((m : Move) → IsMove p m → move_lun m ≡ lun → (after p m).bus_free ≤ earliest p move) → RunsFirst p lun end

-- a legal schedule has one trace, with its requests or without them
abbrev pub OneTraceLaw : Type 0
OneTraceLaw = (requests : Bool) (p : Problem) (s : Schedule) (text other : List ℕ) → Legal p s → IsTrace requests p s text → IsTrace requests p s other → text ≡ other
