-- Laws of what is left and of demands.
use Rattle.std.specs.Prelude.{◌≡◌, ◌≢◌, ℕ, ◌+◌, ◌≤◌, ◌<◌, ◌⊎◌, true, List, length, Some}
use Rattle.onfi_group.specs.Words.{Has}
use Rattle.onfi_problem.specs.Problem.{Problem, IsProblem}
use Rattle.onfi_problem.specs.Moves.{Move, IsMove, IsDone, AreMoves, move_lun, may_go, after}
use Rattle.onfi_schedule.specs.Runs.{Step, Run}
use Rattle.onfi_bound.specs.Bounds.{bus, lead, trail, die}
use Rattle.onfi_demand.specs.Left.{SameLeft, has_left}
use Rattle.onfi_demand.specs.Demand.{Demand, Meets, Holds, bus_demand, trail_demand, die_demand, lead_demand, of_bus, of_luns, asked, length_of}

-- what may go on sooner has each run of what has the same left, where something is left
abbrev pub SoonerLaw : Type 0
SoonerLaw = (p q : Problem) (steps : List Step) (f : ℕ) → IsProblem p → IsProblem q → SameLeft p q → (IsDone q → ⊥) → ((lun : ℕ) → has_left q lun ≡ true → may_go p lun ≤ may_go q lun) → Run q steps f → Run p steps f

-- a bound that reaches e gives a demand that holds, and that the problem meets
pub record Asks (e : ℕ) (p : Problem) (d : Demand) : Type 0 where
  pub holds : Holds e p d
  pub meets : Meets p d

abbrev pub BusLaw : Type 0
BusLaw = (p : Problem) (e : ℕ) → IsProblem p → e ≤ bus p → Asks e p (bus_demand p e)

abbrev pub LeadLaw : Type 0
LeadLaw = (p : Problem) (e : ℕ) → IsProblem p → e ≤ lead p → Asks e p (lead_demand p e)

abbrev pub TrailLaw : Type 0
TrailLaw = (p : Problem) (e t : ℕ) → trail p ≡ Some t → e ≤ t → Asks e p (trail_demand p t e)

abbrev pub DieLaw : Type 0
DieLaw = (p : Problem) (e lun : ℕ) → IsProblem p → lun < length p.luns → e ≤ die p lun → Asks e p (die_demand p lun e)

abbrev pub EndLaw : Type 0
EndLaw = (p : Problem) (e : ℕ) → IsDone p → e ≤ p.bus_free → Asks e p (of_bus e)

-- the tree after the move shows a demand, and the node's asks for it
abbrev pub Shows : ℕ → Problem → (ℕ → ℕ) → Move → Type 0
Shows e p needs m = (d : Demand) × Asks e (after p m) d × ((lun : ℕ) → lun < length p.luns → asked p m d lun ≤ needs lun)

-- the move may yield to a LUN each move of which shows a demand and fits in time, also where both LUNs go on as late as is asked
pub record GivesWay (e : ℕ) (p : Problem) (moves : List Move) (needs : ℕ → ℕ) (m : Move) : Type 0 where
  pub lun : ℕ
  pub other : lun ≢ move_lun m
  pub move : Move
  pub has_move : Has moves move
  pub of_lun : move_lun move ≡ lun
  pub shows : (n : Move) → Has moves n → move_lun n ≡ lun → Shows e p needs n
  pub fits : (n : Move) → Has moves n → move_lun n ≡ lun → needs lun + length_of p n ≤ needs (move_lun m)

-- an open node holds where each move shows its demand or gives way
abbrev pub OpenLaw : Type 0
OpenLaw = (p : Problem) (e : ℕ) (moves : List Move) (needs : ℕ → ℕ) → IsProblem p → AreMoves p moves → 1 ≤ length moves → ((m : Move) → Has moves m → Shows e p needs m ⊎ GivesWay e p moves needs m) → Holds e p (of_luns needs)

-- what is asked is met where what it is asked for was
abbrev pub AskedLaw : Type 0
AskedLaw = (p : Problem) (m : Move) (d : Demand) (lun : ℕ) → IsProblem p → IsMove p m → Meets (after p m) d → has_left p lun ≡ true → asked p m d lun ≤ may_go p lun
