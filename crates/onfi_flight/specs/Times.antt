-- What time that passes does to a schedule, and to a problem.
use Rattle.std.specs.Prelude.{◌≡◌, ℕ, ◌+◌, ◌-◌, ◌≤◌, max, List, [], ◌∷◌, ◌++◌, map, Some, slice_get, slice_set}
use Rattle.std.specs.List.{AllByRecursion as Each, flat_map}
use Rattle.onfi_request.specs.declared.want.Want.{Want}
use Rattle.onfi_problem.specs.declared.lun_state.LunState.TheVariants.{Running}
use Rattle.onfi_problem.specs.Problem.{Problem}
use Rattle.onfi_schedule.specs.Schedule.{Placed, Schedule, Legal, phases, finish}

abbrev pub later_starts : ℕ → List ℕ → List ℕ
later_starts by starts = map (λ t. t + by) starts

abbrev pub later_group : ℕ → Placed → Placed
later_group by g = record { members = g.members; starts = later_starts by g.starts }

-- the schedule with all its starts later by that much
abbrev pub later : ℕ → Schedule → Schedule
later by s = record { rest = map (later_starts by) s.rest; groups = map (later_group by) s.groups }

-- all its starts
abbrev pub all_starts : Schedule → List ℕ
all_starts s = flat_map (λ starts. starts) s.rest ++ flat_map (λ (g : Placed). g.starts) s.groups

-- by how much starts must be later so that none is before the moment
abbrev pub lag : ℕ → List ℕ → ℕ
lag moment [] = 0
lag moment (t ∷ ts) = max (moment - t) (lag moment ts)

-- the latest of them, or 0
abbrev pub latest_start : List ℕ → ℕ
latest_start [] = 0
latest_start (t ∷ ts) = max t (latest_start ts)

-- the same with the bus free from then on
abbrev pub free_at : Problem → ℕ → Problem
free_at p moment = record p { bus_free = moment }

-- a legal schedule with all starts later by that much is legal where the bus is free before each of them
abbrev pub LaterLaw : Type 0
LaterLaw = (p : Problem) (s : Schedule) (by moment : ℕ) → Legal p s → Each (λ x. moment ≤ x.start + by) (phases p s) → Legal (free_at p moment) (later by s)

-- so it is where the bus is free later by at most as much, and it ends at most as much later
abbrev pub ShiftLaw : Type 0
ShiftLaw = (p : Problem) (s : Schedule) (by moment : ℕ) → Legal p s → moment ≤ p.bus_free + by → Legal (free_at p moment) (later by s) × (finish (free_at p moment) (later by s) ≤ finish p s + by)

-- the same with the LUN's next phase ready then
abbrev pub ready_at : Problem → ℕ → List Want → ℕ → ℕ → Problem
ready_at p lun group next moment = record p { luns = slice_set p.luns lun (Running group next moment) }

-- a legal schedule stays legal where a LUN's next phase is ready sooner, and ends no later
abbrev pub ReadyLaw : Type 0
ReadyLaw = (p : Problem) (s : Schedule) (lun : ℕ) (group : List Want) (next ready moment : ℕ) → slice_get p.luns lun ≡ Some (Running group next ready) → moment ≤ ready → Legal p s
    → Legal (ready_at p lun group next moment) s × (finish (ready_at p lun group next moment) s ≤ finish p s)
