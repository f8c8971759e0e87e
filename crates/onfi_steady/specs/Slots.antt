-- Requests and lengths as numbers that C can keep, and what they say.
use Rattle.std.specs.Prelude.{◌≡◌, ℕ, ◌+◌, ◌-◌, ◌==◌, min, nat_lt, not, if◌then◌else◌, Bool, true, false, List, [], ◌∷◌, ◌++◌, map, take, Option, Some, None, slice_get}
use Rattle.std.specs.List.{filter, list_any}
use Rattle.onfi_timing.specs.declared.kind.Kind.{Kind}
use Rattle.onfi_timing.specs.declared.kind.Kind.TheVariants.{Read, Program, Erase, ReadSectors}
use Rattle.onfi_timing.specs.declared.timing.Timing.{Timing}
use Rattle.onfi_timing.specs.Kinds.{spans_of}
use Rattle.onfi_request.specs.declared.want.Want.{Want}
use Rattle.onfi_group.specs.Group.{group_operation, group_spans}
use Rattle.onfi_steady.specs.declared.slot.Slot.{Slot}
use Rattle.onfi_steady.specs.declared.waiter.Waiter.{Waiter}
use Rattle.onfi_steady.specs.declared.kind_spans.KindSpans.{KindSpans}
use Rattle.onfi_steady.specs.declared.begin.Begin.{Begin}
use Rattle.onfi_steady.specs.declared.line.Line.{Line}
use Rattle.onfi_steady.specs.Ranks.{oldest, start_rank}
use Rattle.onfi_steady.specs.Waiting.{greatest_number}

-- kinds by their numbers
abbrev pub kind_named : ℕ → ℕ → ℕ → Kind
kind_named kind first count = if kind == 0 then Read else (if kind == 1 then Program else (if kind == 2 then Erase else ReadSectors first count))

abbrev pub want_in : Slot → Want
want_in s = record { id = s.id; kind = kind_named s.kind s.first s.count; lun = s.lun; plane = s.plane; block = s.block; page = s.page }

abbrev pub waiter_in : Slot → Waiter
waiter_in s = record { want = want_in s; passed = s.passed }

abbrev pub wants_in : List Slot → List Want
wants_in slots = map want_in slots

abbrev pub waiters_in : List Slot → List Waiter
waiters_in slots = map waiter_in slots

-- where the lengths of a kind stand: reads of some sectors from place 3 on, those that are too many as reads of a page
abbrev pub place_of_count : ℕ → ℕ
place_of_count count = if nat_lt 7 count then 0 else (if count == 0 then 0 else count + 2)

abbrev pub place_of : Kind → ℕ
place_of Read = 0
place_of Program = 1
place_of Erase = 2
place_of (ReadSectors first count) = place_of_count count

-- the lengths of each kind are those of the timing
abbrev pub AreSpansOf : Timing → KindSpans → Type 0
AreSpansOf timing spans = (kind : Kind) → slice_get spans.kind (place_of kind) ≡ Some (spans_of timing kind)

-- what begins
abbrev pub begins : Begin → List Slot
begins b = take b.members b.member

-- its members, the length of its first command, where it stands among phases by what it does, and its least and greatest number
pub record IsBegin (timing : Timing) (group : List Want) (b : Begin) : Type 0 where
  pub members : wants_in (begins b) ≡ group
  pub cmd : b.cmd ≡ (group_spans timing group).cmd
  pub rank : b.rank ≡ start_rank (group_operation group)
  pub oldest : b.oldest ≡ oldest group
  pub last : b.last ≡ greatest_number 0 group

-- what waits for a LUN, oldest first
abbrev pub slots_in : Line → List Slot
slots_in line = take line.count.of line.slot

abbrev pub has_number : List Slot → ℕ → Bool
has_number members id = list_any (λ m. m.id == id) members

-- a member of what begins on the LUN
abbrev pub begins_with : ℕ → List Slot → Slot → Bool
begins_with lun members s = if s.lun == lun then has_number members s.id else false

-- how often it was passed over once a group began whose greatest number is `last`
abbrev pub passed_of : ℕ → ℕ → Slot → ℕ
passed_of lun last s = if s.lun == lun then (if nat_lt s.id last then min (s.passed + 1) 65535 else s.passed) else s.passed

abbrev pub left_over : ℕ → ℕ → Slot → Slot
left_over lun last s = record s { passed = passed_of lun last s }

-- those that wait on
abbrev pub left_of : ℕ → Begin → List Slot → List Slot
left_of lun b slots = map (left_over lun b.last) (filter (λ s. not (begins_with lun (begins b) s)) slots)

-- .. with one more looked at
abbrev pub left_with : ℕ → Begin → List Slot → Slot → List Slot
left_with lun b list s = if not (begins_with lun (begins b) s) then list ++ left_over lun b.last s ∷ [] else list

abbrev pub is_above : Option Slot → ℕ → Bool
is_above None id = true
is_above (Some s) id = nat_lt s.id id

-- a number is above that of the last one that waits
abbrev pub is_line_below : Line → ℕ → Bool
is_line_below line id = if line.count.of == 0 then true else is_above (slice_get line.slot (line.count.of - 1)) id

-- those that have another number
abbrev pub others_of : ℕ → List Slot → List Slot
others_of id slots = filter (λ s. not (s.id == id)) slots

-- .. with one more looked at
abbrev pub others_with : ℕ → List Slot → Slot → List Slot
others_with id list s = if not (s.id == id) then list ++ s ∷ [] else list
