-- Demands as a program keeps them: a number for the bus and eight for LUNs.
use Rattle.std.specs.Prelude.{◌≡◌, ℕ, ◌<◌, slice_index}
use Rattle.onfi_problem.specs.Problem.{Problem, IsProblem, IsSmall}
use Rattle.onfi_demand.specs.Demand.{Demand}
use Rattle.onfi_demand.specs.Laws.{Asks}
use Rattle.onfi_demand.specs.declared.demand.Demand.{Demand as Kept}

-- what is kept asks for
abbrev pub demand_of : Kept → Demand
demand_of kept = record { bus = kept.bus; lun = λ l. slice_index kept.luns l }

-- what is kept are a demand's numbers
pub record IsKept (kept : Kept) (d : Demand) : Type 0 where
  pub bus : kept.bus ≡ d.bus
  pub luns : (lun : ℕ) → lun < 8 → slice_index kept.luns lun ≡ d.lun lun

-- what holds of a demand holds of its numbers
abbrev pub KeptLaw : Type 0
KeptLaw = (p : Problem) (e : ℕ) (kept : Kept) (d : Demand) → IsProblem p → IsSmall p → IsKept kept d → Asks e p d → Asks e p (demand_of kept)
