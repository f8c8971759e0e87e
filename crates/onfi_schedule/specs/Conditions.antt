-- Words of the functions that test the conditions, over the lists that they go through.
use Rattle.std.specs.Prelude.{◌≡◌, ℕ, ◌+◌, ◌*◌, ◌^◌, ◌≤◌, ◌<◌, List, [], ◌∷◌, ◌++◌, length, map, Some, slice_get}
use Rattle.std.specs.List.{AllByRecursion as Each, flat_map}
use Rattle.onfi_timing.specs.declared.timing.Timing.{Timing}
use Rattle.onfi_request.specs.declared.want.Want.{Want}
use Rattle.onfi_group.specs.Words.{Has, Pairs, total, number}
use Rattle.onfi_group.specs.Group.{lun_of, group_spans}
use Rattle.onfi_problem.specs.Problem.{has_id}
use Rattle.onfi_problem.specs.declared.lun_state.LunState.{LunState}
use Rattle.onfi_problem.specs.declared.lun_state.LunState.TheVariants.{Free, Running}
use Rattle.onfi_problem.specs.declared.moves.Lun.{Lun}
use Rattle.onfi_problem.specs.Position.{state_of}
use Rattle.onfi_schedule.specs.Schedule.{Placed, Schedule, Phase, end_of, phases_left, rest_phases, group_phases, InOrder, Apart, Before, StartsFrom, TakeTurns}

-- the end fits 64 bits
abbrev pub EndsInTime : Phase → Type 0
EndsInTime x = end_of x < 2 ^ 64

-- a LUN that runs a group names one that is there
abbrev pub Names : List (List Want) → Lun → Type 0
Names table lun = 1 ≤ lun.next → lun.place < length table

-- how many starts groups have
abbrev pub start_count : List Placed → ℕ
start_count groups = total (λ g. length g.starts) groups

-- what LUNs do
abbrev pub states_of : List (List Want) → List Lun → List LunState
states_of table luns = map (state_of table) luns

-- every phase of LUNs and of groups
abbrev pub phases_of : Timing → List LunState → Schedule → List Phase
phases_of timing luns s = rest_phases timing 0 luns s.rest ++ flat_map (group_phases timing) s.groups

-- what each LUN does, with its starts
abbrev pub EachRest : (LunState → List ℕ → Type 0) → List LunState → List (List ℕ) → Type 0
EachRest P [] rest = Unit {0}
EachRest P (state ∷ luns) [] = Unit {0}
EachRest P (state ∷ luns) (starts ∷ rest) = P state starts × EachRest P luns rest

-- as many starts as phases are left
abbrev pub StateFits : LunState → List ℕ → Type 0
StateFits (Free since) starts = starts ≡ []
StateFits (Running group next ready) starts = next + length starts ≡ 2 * length group

-- what is left of a running group keeps its waits
abbrev pub StateWaits : Timing → LunState → List ℕ → Type 0
StateWaits timing (Free since) starts = Unit {0}
StateWaits timing (Running group next ready) starts = InOrder (group_spans timing group) (length group) next ready starts

-- on a free LUN nothing starts too early
abbrev pub StateSince : LunState → List ℕ → Type 0
StateSince (Free since) starts = StartsFrom since starts
StateSince (Running group next ready) starts = Unit {0}

-- what is left of the group that runs on a new group's LUN has ended when the new one starts
abbrev pub LeftFirst : Timing → List LunState → List (List ℕ) → Placed → Type 0
LeftFirst timing luns rest g = (state : LunState) (starts : List ℕ) → slice_get luns (lun_of g.members) ≡ Some state → slice_get rest (lun_of g.members) ≡ Some starts → Before (phases_left timing (lun_of g.members) state starts) (group_phases timing g)

abbrev pub FromSince : List LunState → Placed → Type 0
FromSince luns g = (state : LunState) → slice_get luns (lun_of g.members) ≡ Some state → StateSince state g.starts

-- a new group keeps its waits
abbrev pub GroupWaits : Timing → Placed → Type 0
GroupWaits timing g = InOrder (group_spans timing g.members) (length g.members) 0 0 g.starts

-- the group has ended when any of the others that hold the want starts
abbrev pub EndsBefore : Timing → Placed → Want → List Placed → Type 0
EndsBefore timing g b groups = Each (λ h. Has h.members b → Before (group_phases timing g) (group_phases timing h)) groups

-- so does each of these that holds the one want, of all that hold the other
abbrev pub HoldersEnd : Timing → List Placed → Want → Want → List Placed → Type 0
HoldersEnd timing groups a b those = Each (λ g. Has g.members a → EndsBefore timing g b groups) those

-- of two wants on one block, in this order
pub record InBlockOrder (timing : Timing) (groups : List Placed) (a b : Want) : Type 0 where
  pub holders_end : a.lun ≡ b.lun → a.block ≡ b.block → HoldersEnd timing groups a b groups

-- how many members of groups have the id
abbrev pub id_count : List Placed → ℕ → ℕ
id_count groups id = total (λ g. number (has_id id) g.members) groups

-- exactly one of the groups holds the want, by its id
abbrev pub HoldsOnce : List Placed → Want → Type 0
HoldsOnce groups w = id_count groups w.id ≡ 1

-- two starts for each member
abbrev pub StartsFit : Placed → Type 0
StartsFit g = length g.starts ≡ 2 * length g.members

abbrev pub MembersAmong : List Want → Placed → Type 0
MembersAmong wants g = Each (Has wants) g.members

-- each want in exactly one group, each phase with one start
pub record HasShape (states : List LunState) (wants : List Want) (s : Schedule) : Type 0 where
  pub luns : length s.rest ≡ length states
  pub rest : EachRest StateFits states s.rest
  pub starts : Each StartsFit s.groups
  pub members : Each (MembersAmong wants) s.groups
  pub once : Each (HoldsOnce s.groups) wants

-- the bus is free when a phase starts, and no two phases overlap
pub record KeepsBus (timing : Timing) (bus_free : ℕ) (luns : List LunState) (s : Schedule) : Type 0 where
  pub from_bus_free : Each (λ x. bus_free ≤ x.start) (phases_of timing luns s)
  pub no_overlap : Pairs Apart (phases_of timing luns s)

-- groups keep their waits
pub record KeepsWaits (timing : Timing) (luns : List LunState) (s : Schedule) : Type 0 where
  pub rest_waits : EachRest (StateWaits timing) luns s.rest
  pub groups_wait : Each (GroupWaits timing) s.groups

-- the groups of a LUN take turns, the running one first, and a free one begins when it may
pub record KeepsTurns (timing : Timing) (luns : List LunState) (s : Schedule) : Type 0 where
  pub left_first : Each (LeftFirst timing luns s.rest) s.groups
  pub turns : Pairs (TakeTurns timing) s.groups
  pub from_since : Each (FromSince luns) s.groups
