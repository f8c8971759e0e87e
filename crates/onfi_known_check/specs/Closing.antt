-- Tokens that close a node by a bound, and what they ask for.
use Rattle.std.specs.Prelude.{◌≡◌, ℕ, ◌≤◌, ◌<◌, length, Option, Some, None}
use Rattle.onfi_problem.specs.Problem.{Problem}
use Rattle.onfi_problem.specs.Moves.{IsDone}
use Rattle.onfi_bound.specs.Bounds.{bus, lead, trail, die}
use Rattle.onfi_demand.specs.Demand.{Demand, of_bus, bus_demand, lead_demand, trail_demand, die_demand}
use Rattle.onfi_demand.specs.Window.{IsWindow, window_demand}
use Rattle.onfi_known_check.specs.declared.token.Token.{Token}
use Rattle.onfi_known_check.specs.declared.token.Token.TheVariants.{Branch, Bus, Lead, Trail, Die, Yield, End, Window, Again}

-- the token's bound reaches e
abbrev pub Closes : Problem → ℕ → Token → Type 0
Closes p e Bus = e ≤ bus p
Closes p e Lead = e ≤ lead p
Closes p e Trail = (t : ℕ) × (trail p ≡ Some t) × (e ≤ t)
Closes p e (Die lun) = (lun < length p.luns) × (e ≤ die p lun)
Closes p e End = IsDone p × (e ≤ p.bus_free)
Closes p e (Window start tail) = IsWindow p e start tail
Closes p e (Branch width) = ⊥
Closes p e (Yield lun) = ⊥
Closes p e (Again number) = ⊥

abbrev pub trail_asks : Problem → ℕ → Option ℕ → Demand
trail_asks p e None = of_bus 0
trail_asks p e (Some t) = trail_demand p t e

-- what a node that the token closes asks for
abbrev pub closing_demand : Problem → ℕ → Token → Demand
closing_demand p e Bus = bus_demand p e
closing_demand p e Lead = lead_demand p e
closing_demand p e Trail = trail_asks p e (trail p)
closing_demand p e (Die lun) = die_demand p lun e
closing_demand p e End = of_bus e
closing_demand p e (Window start tail) = window_demand p start tail e
closing_demand p e (Branch width) = of_bus 0
closing_demand p e (Yield lun) = of_bus 0
closing_demand p e (Again number) = of_bus 0
