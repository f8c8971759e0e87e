-- Problems: what is left to do on a channel, and from when on.
use Rattle.std.specs.Prelude.{◌≡◌, ℕ, ◌*◌, ◌<◌, ◌≤◌, ◌==◌, Bool, List, length, Some, slice_get}
use Rattle.std.specs.List.{AllByRecursion as Each}
use Rattle.onfi_timing.specs.declared.kind.Kind.TheVariants.{Erase}
use Rattle.onfi_timing.specs.declared.timing.Timing.{Timing}
use Rattle.onfi_timing.specs.Kinds.{IsStated}
use Rattle.onfi_request.specs.declared.want.Want.{Want}
use Rattle.onfi_group.specs.declared.rules.Rules.{Rules}
use Rattle.onfi_group.specs.Words.{Pairs}
use Rattle.onfi_group.specs.Group.{lun_of, IsGroup}
use Rattle.onfi_problem.specs.declared.lun_state.LunState.{LunState}
use Rattle.onfi_problem.specs.declared.lun_state.LunState.TheVariants.{Free, Running}

-- the lengths of phases, what may be grouped, from when on the bus is free, what each LUN does, and the wants not started
pub record Problem : Type 0 where
  pub timing : Timing
  pub rules : Rules
  pub bus_free : ℕ
  pub luns : List LunState
  pub wants : List Want

-- at most two address bits name the plane, and an erase names page 0
pub record IsWant (w : Want) : Type 0 where
  pub plane : w.plane ≤ 3
  pub erase : w.kind ≡ Erase → w.page ≡ 0

-- a group that runs on this LUN, of which phase `next` comes next: at least one is over and at least one is left
pub record IsRunning (rules : Rules) (at : ℕ) (members : List Want) (next : ℕ) : Type 0 where
  pub group : IsGroup rules members
  pub lun : lun_of members ≡ at
  pub wants : Each IsWant members
  pub started : 1 ≤ next
  pub unfinished : next < 2 * length members

-- at most eight wants, and one to eight LUNs
pub record IsSmall (p : Problem) : Type 0 where
  pub wants : length p.wants ≤ 8
  pub some_luns : 1 ≤ length p.luns
  pub few_luns : length p.luns ≤ 8

-- each want is of a LUN that is there, ids rise, and what runs is a group of its LUN
pub record IsProblem (p : Problem) : Type 0 where
  pub wants : Each IsWant p.wants
  pub in_range : Each (λ w. w.lun < length p.luns) p.wants
  pub ids : Pairs (λ a b. a.id < b.id) p.wants
  pub running : (lun : ℕ) (group : List Want) (next ready : ℕ) → slice_get p.luns lun ≡ Some (Running group next ready) → IsRunning p.rules lun group next

abbrev pub AreStated : Timing → List Want → Type 0
AreStated timing wants = Each (λ w. IsStated timing w.kind) wants

-- the timing states the lengths of what runs
abbrev pub IsLunStated : Timing → LunState → Type 0
IsLunStated timing (Free since) = Unit {0}
IsLunStated timing (Running group next ready) = AreStated timing group

-- the timing states lengths for all that waits or runs: a post for each count of sectors
pub record HasLengths (p : Problem) : Type 0 where
  pub wants : AreStated p.timing p.wants
  pub luns : Each (IsLunStated p.timing) p.luns

abbrev pub has_id : ℕ → Want → Bool
has_id id w = w.id == id
