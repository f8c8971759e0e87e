-- Demands: how late a problem must go on, so that it doesn't end before a finish.
use Rattle.std.specs.Prelude.{◌≡◌, ℕ, zero, suc, ◌+◌, ◌-◌, ◌≤◌, ◌==◌, max, nat_le, if◌then◌else◌, true, List, Option, Some, None, length, slice_get}
use Rattle.onfi_request.specs.declared.want.Want.{Want}
use Rattle.onfi_problem.specs.declared.lun_state.LunState.{LunState}
use Rattle.onfi_problem.specs.Problem.{Problem, IsProblem}
use Rattle.onfi_problem.specs.Moves.{Move, earliest, move_lun, after, may_go, free_from}
use Rattle.onfi_problem.specs.Left.{all_commands, all_posts}
use Rattle.onfi_schedule.specs.Runs.{Step, Run}
use Rattle.onfi_bound.specs.Bounds.{on_lun, to_post, post_starts, least, die}
use Rattle.onfi_demand.specs.Left.{SameLeft, has_left}

-- from when on the bus is free at the earliest, and from when on each LUN with something left may go on
pub record Demand : Type 0 where
  pub bus : ℕ
  pub lun : ℕ → ℕ

-- a problem goes on no sooner than a demand
pub record Meets (p : Problem) (d : Demand) : Type 0 where
  pub bus : d.bus ≤ p.bus_free
  pub luns : (lun : ℕ) → has_left p lun ≡ true → d.lun lun ≤ may_go p lun

-- no run ends before e
abbrev pub Bounded : Problem → ℕ → Type 0
Bounded p e = (steps : List Step) (f : ℕ) → Run p steps f → e ≤ f

-- whatever has the same left and meets the demand has no run that ends before e
abbrev pub Holds : ℕ → Problem → Demand → Type 0
Holds e p d = (q : Problem) → SameLeft p q → IsProblem q → Meets q d → Bounded q e

-- nothing is asked of LUNs
abbrev pub of_bus : ℕ → Demand
of_bus n = record { bus = n; lun = λ _. 0 }

-- of one LUN alone
abbrev pub of_one : ℕ → ℕ → Demand
of_one lun n = record { bus = 0; lun = λ l. if l == lun then n else 0 }

-- of LUNs alone
abbrev pub of_luns : (ℕ → ℕ) → Demand
of_luns lun = record { bus = 0; lun = lun }

-- all phases that are left end at e
abbrev pub bus_demand : Problem → ℕ → Demand
bus_demand p e = of_bus (e - (all_commands p + all_posts p))

-- so does the trail bound t
abbrev pub trail_demand : Problem → ℕ → ℕ → Demand
trail_demand p t e = of_bus (e - (t - p.bus_free))

-- .. the die bound of a LUN
abbrev pub die_demand : Problem → ℕ → ℕ → Demand
die_demand p lun e = if has_left p lun then of_one lun (e - (die p lun - may_go p lun)) else of_bus e

abbrev pub before_post : ℕ → Option ℕ → ℕ
before_post e None = 0
before_post e (Some rest) = e - rest

abbrev pub lead_at : Problem → ℕ → List Want → Option LunState → ℕ
lead_at p e wants None = 0
lead_at p e wants (Some state) = before_post (e - all_posts p) (to_post p.timing wants state)

abbrev pub lead_by_first : Problem → ℕ → Option ℕ → Demand
lead_by_first p e None = of_bus e
lead_by_first p e (Some first) = of_luns (λ lun. lead_at p e (on_lun lun p.wants) (slice_get p.luns lun))

-- .. each LUN's first post and all posts; where nothing is left the bus is free from e on
abbrev pub lead_demand : Problem → ℕ → Demand
lead_demand p e = lead_by_first p e (least (post_starts p 0 p.luns))

-- the greatest of f 0 .. f (n - 1), or 0
abbrev pub greatest : ℕ → (ℕ → ℕ) → ℕ
greatest zero f = 0
greatest (suc n) f = max (f n) (greatest n f)

-- how long the move's phase lasts, and how long its LUN waits after it
abbrev pub length_of : Problem → Move → ℕ
length_of p m = (after p m).bus_free - earliest p m

abbrev pub wait_of : Problem → Move → ℕ
wait_of p m = free_from (slice_get (after p m).luns (move_lun m)) - (after p m).bus_free

-- what another LUN asks for through the bus, where the bus gets there by the end of the move
abbrev pub through_bus : Problem → Move → Demand → ℕ → ℕ
through_bus p m d lun = if lun == move_lun m then 0 else (if nat_le (d.lun lun) (after p m).bus_free then d.lun lun - length_of p m else 0)

-- what the move's own LUN asks for
abbrev pub of_own : Problem → Move → Demand → ℕ
of_own p m d = if has_left (after p m) (move_lun m) then d.lun (move_lun m) - (length_of p m + wait_of p m) else 0

-- what a demand after a move asks of each LUN before it
abbrev pub asked : Problem → Move → Demand → ℕ → ℕ
asked p m d lun =
    if lun == move_lun m
    then max (d.bus - length_of p m) (max (of_own p m d) (greatest (length p.luns) (through_bus p m d)))
    else (if nat_le (d.lun lun) (after p m).bus_free then 0 else d.lun lun)
