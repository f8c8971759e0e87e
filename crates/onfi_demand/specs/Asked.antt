-- What a demand after a move asks for, in the numbers of the move.
use Rattle.std.specs.Prelude.{◌≡◌, ℕ, ◌+◌, ◌-◌, ◌==◌, ◌<◌, max, nat_le, if◌then◌else◌, true, false, List, Option, Some, None, length, slice_index}
use Rattle.onfi_problem.specs.Problem.{Problem}
use Rattle.onfi_problem.specs.Moves.{Move, earliest, move_lun, after, may_go}
use Rattle.onfi_demand.specs.Left.{has_left}
use Rattle.onfi_demand.specs.Demand.{Demand, asked, greatest}
use Rattle.onfi_demand.specs.Kept.{demand_of}
use Rattle.onfi_demand.specs.declared.asked.Step.{Step}
use Rattle.onfi_demand.specs.declared.demand.Demand.{Demand as Kept}

abbrev pub through_by : Step → Demand → ℕ → ℕ
through_by step d lun = if lun == step.lun then 0 else (if nat_le (d.lun lun) step.end then d.lun lun - (step.end - step.start) else 0)

abbrev pub greatest_by : Step → Demand → ℕ → ℕ
greatest_by step d count = greatest count (through_by step d)

abbrev pub own_by : Step → Demand → Option ℕ → ℕ
own_by step d None = 0
own_by step d (Some go) = d.lun step.lun - (step.end - step.start + (go - step.end))

abbrev pub own_asks : Step → ℕ → Demand → ℕ
own_asks step count d = max (d.bus - (step.end - step.start)) (max (own_by step d step.go) (greatest_by step d count))

abbrev pub asked_by : Step → ℕ → Demand → ℕ → ℕ
asked_by step count d lun = if lun == step.lun then own_asks step count d else (if nat_le (d.lun lun) step.end then 0 else d.lun lun)

abbrev pub GoesOn : Problem → ℕ → Option ℕ → Type 0
GoesOn p lun None = has_left p lun ≡ false
GoesOn p lun (Some go) = (has_left p lun ≡ true) × (go ≡ may_go p lun)

-- the numbers are those of the move at its earliest
pub record IsStep (p : Problem) (m : Move) (step : Step) : Type 0 where
  pub lun : step.lun ≡ move_lun m
  pub start : step.start ≡ earliest p m
  pub end : step.end ≡ (after p m).bus_free
  pub go : GoesOn (after p m) (move_lun m) step.go

-- the numbers asked so far, raised by what the demand after a move asks
abbrev pub AreRaised : Problem → Move → Kept → List ℕ → List ℕ → Type 0
AreRaised p m d before behind = (lun : ℕ) → lun < 8 → slice_index behind lun ≡ max (slice_index before lun) (asked p m (demand_of d) lun)

-- the numbers of a move say what is asked before it
abbrev pub StepLaw : Type 0
StepLaw = (p : Problem) (m : Move) (step : Step) (d : Demand) (lun : ℕ) → IsStep p m step → asked_by step (length p.luns) d lun ≡ asked p m d lun
