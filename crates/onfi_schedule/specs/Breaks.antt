-- Which condition of a legal schedule a breach says is broken.
use Rattle.std.specs.Prelude.{◌≡◌, ◌≤◌, length}
use Rattle.std.specs.List.{AllByRecursion as Each}
use Rattle.onfi_group.specs.Words.{Pairs}
use Rattle.onfi_group.specs.Group.{IsGroup}
use Rattle.onfi_problem.specs.Problem.{Problem}
use Rattle.onfi_schedule.specs.Schedule.{Schedule, Apart, TakeTurns, phases}
use Rattle.onfi_schedule.specs.Conditions.{EachRest, StateFits, StartsFit, MembersAmong, HoldsOnce, KeepsWaits, LeftFirst, FromSince, InBlockOrder}
use Rattle.onfi_schedule.specs.declared.breach.Breach.{Breach}
use Rattle.onfi_schedule.specs.declared.breach.Breach.TheVariants.{ForeignLun, MissingLun, RestOfFreeLun, RestCount, StartCount, UnknownRequest, MissingRequest, RepeatedRequest, MixedGroup, SinglePlane, PlaneOrder, BusNotFree, NotReady, WaitTooShort, LunNotFree, RunningGroupLeft, LunTaken, BlockOrder, Overlap}

-- the conditions of `Legal`, in the order in which they are looked at
pub data Condition : Type 0 where
  lun_count : Condition
  rest_counts : Condition
  start_counts : Condition
  known_requests : Condition
  each_once : Condition
  is_a_group : Condition
  bus_is_free : Condition
  no_overlap : Condition
  keeps_waits : Condition
  running_first : Condition
  takes_turns : Condition
  lun_is_free : Condition
  keeps_block_order : Condition

-- what each says, in the words of `Conditions`
abbrev pub Holds : Problem → Schedule → Condition → Type 0
Holds p s lun_count = length s.rest ≡ length p.luns
Holds p s rest_counts = EachRest StateFits p.luns s.rest
Holds p s start_counts = Each StartsFit s.groups
Holds p s known_requests = Each (MembersAmong p.wants) s.groups
Holds p s each_once = Each (HoldsOnce s.groups) p.wants
Holds p s is_a_group = Each (λ g. IsGroup p.rules g.members) s.groups
Holds p s bus_is_free = Each (λ x. p.bus_free ≤ x.start) (phases p s)
Holds p s no_overlap = Pairs Apart (phases p s)
Holds p s keeps_waits = KeepsWaits p.timing p.luns s
Holds p s running_first = Each (LeftFirst p.timing p.luns s.rest) s.groups
Holds p s takes_turns = Pairs (TakeTurns p.timing) s.groups
Holds p s lun_is_free = Each (FromSince p.luns) s.groups
Holds p s keeps_block_order = Pairs (InBlockOrder p.timing s.groups) p.wants

-- the condition that each kind of breach speaks of
abbrev pub condition_of : Breach → Condition
condition_of (ForeignLun a) = lun_count
condition_of (MissingLun a) = lun_count
condition_of (RestOfFreeLun a) = rest_counts
condition_of (RestCount a b c) = rest_counts
condition_of (StartCount a b c) = start_counts
condition_of (UnknownRequest a) = known_requests
condition_of (MissingRequest a) = each_once
condition_of (RepeatedRequest a b) = each_once
condition_of (MixedGroup a b c) = is_a_group
condition_of (SinglePlane a b) = is_a_group
condition_of (PlaneOrder a b) = is_a_group
condition_of (BusNotFree a b c) = bus_is_free
condition_of (Overlap a b c d e) = no_overlap
condition_of (NotReady a b c d) = keeps_waits
condition_of (WaitTooShort a b c d e) = keeps_waits
condition_of (RunningGroupLeft a b c d) = running_first
condition_of (LunTaken a b c d e f) = takes_turns
condition_of (LunNotFree a b c d) = lun_is_free
condition_of (BlockOrder a b c d) = keeps_block_order

-- the condition of a breach is broken indeed
abbrev pub Breaks : Problem → Schedule → Breach → Type 0
Breaks p s breach = Holds p s (condition_of breach) → ⊥
