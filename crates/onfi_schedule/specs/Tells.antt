-- What a breach says: its requests, LUNs, phases, counts and times are those of the schedule that break the condition.
use Rattle.std.specs.Prelude.{◌≡◌, ◌≢◌, ℕ, ◌+◌, ◌*◌, ◌<◌, ◌≤◌, ◌⊎◌, false, IsTrue, List, [], ◌∷◌, length, drop, Some, slice_get}
use Rattle.std.specs.List.{Any}
use Rattle.onfi_timing.specs.declared.operation.Operation.TheVariants.{Erase}
use Rattle.onfi_timing.specs.Kinds.{operation_of}
use Rattle.onfi_timing.specs.declared.timing.Timing.{Timing}
use Rattle.onfi_timing.specs.Phases.{wait_before}
use Rattle.onfi_request.specs.declared.want.Want.{Want}
use Rattle.onfi_group.specs.declared.rules.Rules.{Rules}
use Rattle.onfi_group.specs.Words.{Has}
use Rattle.onfi_group.specs.Group.{group_operation, lun_of, group_spans, may_group, above_planes}
use Rattle.onfi_problem.specs.declared.lun_state.LunState.{LunState}
use Rattle.onfi_problem.specs.declared.lun_state.LunState.TheVariants.{Free, Running}
use Rattle.onfi_problem.specs.Problem.{Problem}
use Rattle.onfi_schedule.specs.Schedule.{Placed, Schedule, end_of, phases_left, group_phases, latest, rest_of}
use Rattle.onfi_schedule.specs.Conditions.{id_count}
use Rattle.onfi_schedule.specs.Names.{Named, name_of, named, named_from, named_group, StartsFirst}
use Rattle.onfi_schedule.specs.declared.phase_name.PhaseName.{PhaseName}
use Rattle.onfi_schedule.specs.declared.breach.Difference.{Difference}
use Rattle.onfi_schedule.specs.declared.breach.Difference.TheVariants.{Kind as Kinds, Lun as Luns, Page as Pages, Block as Blocks}
use Rattle.onfi_schedule.specs.declared.breach.Breach.{Breach}
use Rattle.onfi_schedule.specs.declared.breach.Breach.TheVariants.{ForeignLun, MissingLun, RestOfFreeLun, RestCount, StartCount, UnknownRequest, MissingRequest, RepeatedRequest, MixedGroup, SinglePlane, PlaneOrder, BusNotFree, NotReady, WaitTooShort, LunNotFree, RunningGroupLeft, LunTaken, BlockOrder, Overlap}

-- the number of the first member
abbrev pub first_id : List Want → ℕ
first_id [] = 0
first_id (m ∷ ms) = m.id

abbrev pub IsNumbered : ℕ → Want → Type 0
IsNumbered id w = w.id ≡ id

-- x, and y after it
abbrev pub ArePair : {A : Type 0} → List A → A → A → Type 0
ArePair [] x y = ⊥
ArePair (z ∷ zs) x y = ((z ≡ x) × Has zs y) ⊎ ArePair zs x y

-- two of them, the one or the other in front
abbrev pub AreTwo : {A : Type 0} → List A → A → A → Type 0
AreTwo xs x y = ArePair xs x y ⊎ ArePair xs y x

-- a phase of that name starts then
abbrev pub Starts : PhaseName → ℕ → Named → Type 0
Starts name start x = (x.name ≡ name) × (x.phase.start ≡ start)

-- a free LUN has starts
pub record HasRest (p : Problem) (s : Schedule) (lun : ℕ) : Type 0 where
  pub since : ℕ
  pub starts : List ℕ
  pub free : slice_get p.luns lun ≡ Some (Free since)
  pub given : rest_of s lun ≡ Some starts
  pub some : 1 ≤ length starts

-- a LUN has that many starts in place of those that its running group has phases left
pub record HasOtherRest (p : Problem) (s : Schedule) (lun starts left : ℕ) : Type 0 where
  pub group : List Want
  pub next : ℕ
  pub ready : ℕ
  pub times : List ℕ
  pub running : slice_get p.luns lun ≡ Some (Running group next ready)
  pub given : rest_of s lun ≡ Some times
  pub count : length times ≡ starts
  pub phases_left : next + left ≡ 2 * length group
  pub other : starts ≢ left

-- a group named by its first request, with that many starts in place of two for each member
pub record HasCounts (request starts phases : ℕ) (g : Placed) : Type 0 where
  pub told : first_id g.members ≡ request
  pub count : length g.starts ≡ starts
  pub right : 2 * length g.members ≡ phases
  pub other : starts ≢ phases

-- a member of that number that isn't one of the wants
abbrev pub IsUnknown : List Want → ℕ → Want → Type 0
IsUnknown wants id m = (m.id ≡ id) × (Has wants m → ⊥)

-- the member differs from the first one in that
abbrev pub Differs : Rules → Difference → Want → Want → Type 0
Differs rules Kinds first m = operation_of m.kind ≢ operation_of first.kind
Differs rules Luns first m = m.lun ≢ first.lun
Differs rules Pages first m = (operation_of first.kind ≢ Erase) × (m.page ≢ first.page)
Differs rules Blocks first m = IsTrue rules.strict × (above_planes rules m ≢ above_planes rules first)

-- a group named by its first request, with a member of that number that differs so
pub record IsMixed (rules : Rules) (first request : ℕ) (difference : Difference) (g : Placed) : Type 0 where
  pub one : Want
  pub other : Want
  pub begins : slice_get g.members 0 ≡ Some one
  pub there : Has g.members other
  pub told : one.id ≡ first
  pub told_other : other.id ≡ request
  pub differs : Differs rules difference one other

-- a group named by its first request, with another member of that number, of a kind of which no several run as one
pub record IsSinglePlane (rules : Rules) (first request : ℕ) (g : Placed) : Type 0 where
  pub told : first_id g.members ≡ first
  pub other : Any (IsNumbered request) (drop 1 g.members)
  pub rule : may_group rules (group_operation g.members) ≡ false

-- a group with two members, the one right after the other, whose planes don't rise
pub record FallsBack (before request : ℕ) (g : Placed) : Type 0 where
  pub place : ℕ
  pub one : Want
  pub next : Want
  pub there : slice_get g.members place ≡ Some one
  pub behind : slice_get g.members (place + 1) ≡ Some next
  pub told : one.id ≡ before
  pub told_next : next.id ≡ request
  pub planes : next.plane ≤ one.plane

-- a phase starts while another one holds the bus
pub record StartsWithin (xs : List Named) (name : PhaseName) (start : ℕ) (holder : PhaseName) (from to : ℕ) : Type 0 where
  pub one : Named
  pub other : Named
  pub two : AreTwo xs one other
  pub starts : Starts name start one
  pub holds : Starts holder from other
  pub ends : end_of other.phase ≡ to
  pub begun : from ≤ start
  pub lasts : start < to

-- the next phase of a running group starts before its LUN is ready
pub record StartsUnready (p : Problem) (s : Schedule) (name : PhaseName) (lun start ready : ℕ) : Type 0 where
  pub group : List Want
  pub next : ℕ
  pub later : List ℕ
  pub running : slice_get p.luns lun ≡ Some (Running group next ready)
  pub given : rest_of s lun ≡ Some (start ∷ later)
  pub called : name_of next lun group next ≡ name
  pub early : start < ready

-- a group of the LUN with starts for its phases from number `next` on, the first due from `floor`: a new one, or what runs
abbrev pub HasWork : Problem → Schedule → ℕ → List Want → ℕ → ℕ → List ℕ → Type 0
HasWork p s lun members next floor starts =
    ((next ≡ 0) × (floor ≡ 0) × (lun_of members ≡ lun) × Has s.groups (record { members = members; starts = starts }))
    ⊎ ((slice_get p.luns lun ≡ Some (Running members next floor)) × (rest_of s lun ≡ Some starts))

-- of a group's phases one starts before the one right in front of it, and the wait after that, are over
pub record StartsInWait (p : Problem) (s : Schedule) (name before : PhaseName) (lun start ready : ℕ) : Type 0 where
  pub members : List Want
  pub next : ℕ
  pub floor : ℕ
  pub starts : List ℕ
  pub work : HasWork p s lun members next floor starts
  pub place : ℕ
  pub one : Named
  pub two : Named
  pub there : slice_get (named_from next lun (group_spans p.timing members) members next starts) place ≡ Some one
  pub behind : slice_get (named_from next lun (group_spans p.timing members) members next starts) (place + 1) ≡ Some two
  pub told : Starts name start two
  pub told_before : one.name ≡ before
  pub over : end_of one.phase + wait_before (group_spans p.timing members) (length members) (next + place + 1) ≡ ready
  pub early : start < ready

-- a group's first phase in its order starts before its LUN is free
pub record StartsUnfree (p : Problem) (s : Schedule) (name : PhaseName) (lun start since : ℕ) : Type 0 where
  pub group : Placed
  pub later : List ℕ
  pub there : Has s.groups group
  pub of_lun : lun_of group.members ≡ lun
  pub free : slice_get p.luns lun ≡ Some (Free since)
  pub given : group.starts ≡ start ∷ later
  pub called : name_of 0 lun group.members 0 ≡ name
  pub early : start < since

-- a group starts, by that phase, before what is left of the running group of its LUN has ended
pub record StartsBeforeLeft (p : Problem) (s : Schedule) (name : PhaseName) (lun start end : ℕ) : Type 0 where
  pub group : Placed
  pub state : LunState
  pub starts : List ℕ
  pub first : Named
  pub there : Has s.groups group
  pub of_lun : lun_of group.members ≡ lun
  pub runs : slice_get p.luns lun ≡ Some state
  pub given : rest_of s lun ≡ Some starts
  pub begins : StartsFirst (named_group p.timing group) first
  pub told : Starts name start first
  pub ends : latest 0 (phases_left p.timing lun state starts) ≡ end
  pub early : start < end

-- a group starts, by that phase, while another one, named by its first request, has their LUN
pub record TakesLun (p : Problem) (s : Schedule) (name : PhaseName) (lun start holder from to : ℕ) : Type 0 where
  pub group : Placed
  pub other : Placed
  pub first : Named
  pub other_first : Named
  pub two : AreTwo s.groups group other
  pub of_lun : lun_of group.members ≡ lun
  pub other_of_lun : lun_of other.members ≡ lun
  pub begins : StartsFirst (named_group p.timing group) first
  pub told : Starts name start first
  pub holds : first_id other.members ≡ holder
  pub other_begins : StartsFirst (named_group p.timing other) other_first
  pub holds_from : other_first.phase.start ≡ from
  pub holds_to : latest 0 (group_phases p.timing other) ≡ to
  pub begun : from ≤ start
  pub lasts : start < to

-- the one group ends then, and the other one starts then, which is before
pub record Outlasts (timing : Timing) (end start : ℕ) (group other : Placed) : Type 0 where
  pub first : Named
  pub ends : latest 0 (group_phases timing group) ≡ end
  pub begins : StartsFirst (named_group timing other) first
  pub starts : first.phase.start ≡ start
  pub early : start < end

-- of two requests on one block a group of the later starts before a group of the earlier has ended
pub record StartsOutOfOrder (p : Problem) (s : Schedule) (earlier later start end : ℕ) : Type 0 where
  pub one : Want
  pub two : Want
  pub group : Placed
  pub other : Placed
  pub order : ArePair p.wants one two
  pub told : one.id ≡ earlier
  pub told_later : two.id ≡ later
  pub lun : one.lun ≡ two.lun
  pub block : one.block ≡ two.block
  pub there : Has s.groups group
  pub other_there : Has s.groups other
  pub holds : Has group.members one
  pub other_holds : Has other.members two
  pub lasts : Outlasts p.timing end start group other

abbrev pub Tells : Problem → Schedule → Breach → Type 0
Tells p s (ForeignLun last) = (last + 1 ≡ length p.luns) × (length p.luns < length s.rest)
Tells p s (MissingLun lun) = (lun ≡ length s.rest) × (length s.rest < length p.luns)
Tells p s (RestOfFreeLun lun) = HasRest p s lun
Tells p s (RestCount lun starts left) = HasOtherRest p s lun starts left
Tells p s (StartCount request starts phases) = Any (HasCounts request starts phases) s.groups
Tells p s (UnknownRequest request) = Any (λ g. Any (IsUnknown p.wants request) g.members) s.groups
Tells p s (MissingRequest request) = Any (IsNumbered request) p.wants × (id_count s.groups request ≡ 0)
Tells p s (RepeatedRequest request times) = Any (IsNumbered request) p.wants × (id_count s.groups request ≡ times) × (2 ≤ times)
Tells p s (MixedGroup first request difference) = Any (IsMixed p.rules first request difference) s.groups
Tells p s (SinglePlane first request) = Any (IsSinglePlane p.rules first request) s.groups
Tells p s (PlaneOrder before request) = Any (FallsBack before request) s.groups
Tells p s (BusNotFree name start bus_free) = Any (Starts name start) (named p s) × (bus_free ≡ p.bus_free) × (start < bus_free)
Tells p s (Overlap name start holder from to) = StartsWithin (named p s) name start holder from to
Tells p s (NotReady name lun start ready) = StartsUnready p s name lun start ready
Tells p s (WaitTooShort name before lun start ready) = StartsInWait p s name before lun start ready
Tells p s (RunningGroupLeft name lun start end) = StartsBeforeLeft p s name lun start end
Tells p s (LunTaken name lun start holder from to) = TakesLun p s name lun start holder from to
Tells p s (LunNotFree name lun start since) = StartsUnfree p s name lun start since
Tells p s (BlockOrder earlier later start end) = StartsOutOfOrder p s earlier later start end
