-- Schedules, and which of them are legal.
use Rattle.std.specs.Prelude.{◌≡◌, ℕ, ◌+◌, ◌*◌, ◌≤◌, ◌⊎◌, max, List, [], ◌∷◌, ◌++◌, length, Option, Some, slice_get, slice_set, slice_index_or}
use Rattle.std.specs.List.{AllByRecursion as Each, flat_map}
use Rattle.onfi_timing.specs.declared.timing.Timing.{Timing}
use Rattle.onfi_timing.specs.Phases.{Lengths, phase_length, wait_before}
use Rattle.onfi_request.specs.declared.want.Want.{Want}
use Rattle.onfi_group.specs.Words.{Has, Pairs, number}
use Rattle.onfi_group.specs.Group.{lun_of, group_spans, IsGroup}
use Rattle.onfi_problem.specs.declared.lun_state.LunState.{LunState}
use Rattle.onfi_problem.specs.declared.lun_state.LunState.TheVariants.{Free, Running}
use Rattle.onfi_problem.specs.Problem.{Problem, has_id}
use Rattle.onfi_problem.specs.Moves.{Move, Next, Start}
pub use Rattle.onfi_schedule.specs.declared.phase.Phase.{Phase}

-- a group with a start for each of its phases
pub record Placed : Type 0 where
  pub members : List Want
  pub starts : List ℕ

-- for each LUN the starts of the remaining phases of its running group, none where it is free; and new groups in any order
pub record Schedule : Type 0 where
  pub rest : List (List ℕ)
  pub groups : List Placed

abbrev pub end_of : Phase → ℕ
end_of p = p.start + p.length

-- the phases of a group of k from phase n on
abbrev pub phases_from : ℕ → Lengths → ℕ → ℕ → List ℕ → List Phase
phases_from lun spans k n [] = []
phases_from lun spans k n (t ∷ ts) = record { lun = lun; start = t; length = phase_length spans k n } ∷ phases_from lun spans k (n + 1) ts

-- what is left of a running group
abbrev pub phases_left : Timing → ℕ → LunState → List ℕ → List Phase
phases_left timing lun (Free since) starts = []
phases_left timing lun (Running group next ready) starts = phases_from lun (group_spans timing group) (length group) next starts

-- of the LUNs from number `lun` on
abbrev pub rest_phases : Timing → ℕ → List LunState → List (List ℕ) → List Phase
rest_phases timing lun [] rest = []
rest_phases timing lun (state ∷ luns) [] = []
rest_phases timing lun (state ∷ luns) (starts ∷ rest) = phases_left timing lun state starts ++ rest_phases timing (lun + 1) luns rest

abbrev pub group_phases : Timing → Placed → List Phase
group_phases timing g = phases_from (lun_of g.members) (group_spans timing g.members) (length g.members) 0 g.starts

-- every phase of a schedule
abbrev pub phases : Problem → Schedule → List Phase
phases p s = rest_phases p.timing 0 p.luns s.rest ++ flat_map (group_phases p.timing) s.groups

-- the greatest end of a phase, or `bus_free` where no phase is left; no phase of a legal schedule ends before `bus_free`
abbrev pub latest : ℕ → List Phase → ℕ
latest t [] = t
latest t (p ∷ ps) = max (end_of p) (latest t ps)

abbrev pub finish : Problem → Schedule → ℕ
finish p s = latest p.bus_free (phases p s)

-- the members of all groups
abbrev pub all_members : List Placed → List Want
all_members groups = flat_map (λ g. g.members) groups

abbrev pub rest_of : Schedule → ℕ → Option (List ℕ)
rest_of s lun = slice_get s.rest lun

-- the shape of a schedule: each want in exactly one group, each phase with one start
pub record IsSchedule (p : Problem) (s : Schedule) : Type 0 where
  pub luns : length s.rest ≡ length p.luns
  pub rest : (lun : ℕ) (group : List Want) (next ready : ℕ) (starts : List ℕ) → slice_get p.luns lun ≡ Some (Running group next ready) → rest_of s lun ≡ Some starts → next + length starts ≡ 2 * length group
  pub no_rest : (lun since : ℕ) (starts : List ℕ) → slice_get p.luns lun ≡ Some (Free since) → rest_of s lun ≡ Some starts → starts ≡ []
  pub starts : Each (λ g. length g.starts ≡ 2 * length g.members) s.groups
  pub wants_only : Each (Has p.wants) (all_members s.groups)
  pub once : (id : ℕ) → number (has_id id) (all_members s.groups) ≡ number (has_id id) p.wants

-- two phases don't overlap
abbrev pub Apart : Phase → Phase → Type 0
Apart a b = (end_of a ≤ b.start) ⊎ (end_of b ≤ a.start)

-- each phase starts at least its wait after the end of the one before it, the first at `floor` or later
abbrev pub InOrder : Lengths → ℕ → ℕ → ℕ → List ℕ → Type 0
InOrder spans k n floor [] = Unit {0}
InOrder spans k n floor (t ∷ ts) = (floor ≤ t) × InOrder spans k (n + 1) (t + phase_length spans k n + wait_before spans k (n + 1)) ts

-- the ones have ended when any of the others starts
abbrev pub Before : List Phase → List Phase → Type 0
Before xs ys = Each (λ x. Each (λ y. end_of x ≤ y.start) ys) xs

abbrev pub StartsFrom : ℕ → List ℕ → Type 0
StartsFrom floor [] = Unit {0}
StartsFrom floor (t ∷ ts) = floor ≤ t

-- on one LUN one is over before the other begins
abbrev pub TakeTurns : Timing → Placed → Placed → Type 0
TakeTurns timing g h = lun_of g.members ≡ lun_of h.members → Before (group_phases timing g) (group_phases timing h) ⊎ Before (group_phases timing h) (group_phases timing g)

-- of two wants on one block the group of the earlier ends before that of the later starts
abbrev pub KeepsBlockOrder : Timing → List Placed → Want → Want → Type 0
KeepsBlockOrder timing groups a b = a.lun ≡ b.lun → a.block ≡ b.block → (g h : Placed) → Has groups g → Has groups h → Has g.members a → Has h.members b → Before (group_phases timing g) (group_phases timing h)

pub record Legal (p : Problem) (s : Schedule) : Type 0 where
  pub shape : IsSchedule p s
  pub from_bus_free : Each (λ x. p.bus_free ≤ x.start) (phases p s)
  pub no_overlap : Pairs Apart (phases p s)
  pub rest_waits : (lun : ℕ) (group : List Want) (next ready : ℕ) (starts : List ℕ) → slice_get p.luns lun ≡ Some (Running group next ready) → rest_of s lun ≡ Some starts → InOrder (group_spans p.timing group) (length group) next ready starts
  pub waits : Each (λ g. InOrder (group_spans p.timing g.members) (length g.members) 0 0 g.starts) s.groups
  pub running_first : Each (λ g. (group : List Want) (next ready : ℕ) (starts : List ℕ) → slice_get p.luns (lun_of g.members) ≡ Some (Running group next ready) → rest_of s (lun_of g.members) ≡ Some starts → Before (phases_left p.timing (lun_of g.members) (Running group next ready) starts) (group_phases p.timing g)) s.groups
  pub turns : Pairs (TakeTurns p.timing) s.groups
  pub from_since : Each (λ g. (since : ℕ) → slice_get p.luns (lun_of g.members) ≡ Some (Free since) → StartsFrom since g.starts) s.groups
  pub block_order : Pairs (KeepsBlockOrder p.timing s.groups) p.wants
  pub group : Each (λ g. IsGroup p.rules g.members) s.groups

-- legal, and no legal schedule ends sooner
pub record Optimal (p : Problem) (s : Schedule) : Type 0 where
  pub legal : Legal p s
  pub least : (other : Schedule) → Legal p other → finish p s ≤ finish p other

abbrev pub starts_at : Schedule → ℕ → List ℕ
starts_at s lun = slice_index_or s.rest lun []

-- a schedule of what a move leaves, with the move's phase in front
abbrev pub with_first : Move → ℕ → Schedule → Schedule
with_first (Next lun) start s = record { rest = slice_set s.rest lun (start ∷ starts_at s lun); groups = s.groups }
with_first (Start group) start s = record { rest = slice_set s.rest (lun_of group) []; groups = record { members = group; starts = start ∷ starts_at s (lun_of group) } ∷ s.groups }
