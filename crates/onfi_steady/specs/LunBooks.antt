-- What a LUN does, what waits for it and what it would begin, as a dispatcher keeps them.
use Rattle.std.specs.Prelude.{◌≡◌, ℕ, ◌+◌, ◌*◌, ◌≤◌, ◌==◌, nat_lt, if◌then◌else◌, Bool, List, [], Some, length, map, take}
use Rattle.std.specs.List.{list_any}
use Rattle.onfi_timing.specs.declared.kind.Kind.TheVariants.{Read}
use Rattle.onfi_timing.specs.declared.operation.Operation.TheVariants.{Erase}
use Rattle.onfi_timing.specs.declared.timing.Timing.{Timing}
use Rattle.onfi_timing.specs.Phases.{phase_length}
use Rattle.onfi_request.specs.declared.want.Want.{Want}
use Rattle.onfi_group.specs.declared.rules.Rules.{Rules}
use Rattle.onfi_group.specs.Group.{group_operation, group_spans}
use Rattle.onfi_problem.specs.Moves.{lun_after}
use Rattle.onfi_problem.specs.declared.lun_state.LunState.{LunState}
use Rattle.onfi_problem.specs.declared.lun_state.LunState.TheVariants.{Free, Running}
use Rattle.onfi_flight.specs.Flight.{member_of}
use Rattle.onfi_steady.specs.declared.begin.Begin.{Begin}
use Rattle.onfi_steady.specs.declared.group_phase.GroupPhase.{GroupPhase}
use Rattle.onfi_steady.specs.declared.lun_books.LunBooks.{LunBooks}
use Rattle.onfi_steady.specs.declared.lun_books.LunOffer.{LunOffer}
use Rattle.onfi_steady.specs.declared.run.Run.{Run}
use Rattle.onfi_steady.specs.declared.slot.Slot.{Slot}
use Rattle.onfi_steady.specs.declared.waiter.Waiter.{Waiter}
use Rattle.onfi_steady.specs.Ranks.{oldest, operation_rank, post_rank}
use Rattle.onfi_steady.specs.Offer.{erase_group, firsts, is_kind, is_open, own_group}
use Rattle.onfi_steady.specs.Slots.{IsBegin, left_of, slots_in, waiters_in, wants_in}

-- what a LUN runs; no members where it runs nothing
abbrev pub runs : Run → List Slot
runs r = take r.members r.member

abbrev pub state_in : Run → LunState
state_in r = if r.members == 0 then Free r.since else Running (wants_in (runs r)) r.next r.since

abbrev pub states_in : List LunBooks → List LunState
states_in luns = map (λ l. state_in l.run) luns

-- what is kept of a group that runs: how long its next phase takes, the gap between its commands, where that phase stands by
-- what it does, its least number, and whether it erases
pub record IsGoing (timing : Timing) (r : Run) : Type 0 where
  pub size : length (wants_in (runs r)) ≡ r.members
  pub span : r.span ≡ phase_length (group_spans timing (wants_in (runs r))) (length (wants_in (runs r))) r.next
  pub gap : r.gap ≡ (group_spans timing (wants_in (runs r))).gap
  pub rank : r.rank ≡ (if nat_lt r.next (length (wants_in (runs r))) then 0 else post_rank (group_operation (wants_in (runs r))))
  pub oldest : r.oldest ≡ oldest (wants_in (runs r))
  pub erases : r.erases ≡ (operation_rank (group_operation (wants_in (runs r))) == operation_rank Erase)
  pub within : r.next + 1 ≤ 2 * length (wants_in (runs r))

-- what runs has a phase left
abbrev pub HasPhaseLeft : LunState → Type 0
HasPhaseLeft (Free since) = Unit {0}
HasPhaseLeft (Running group next ready) = next + 1 ≤ 2 * length group

-- phase `number` of a group: of which member it is, how long it takes, and how many members there are
pub record IsGroupPhase (timing : Timing) (group : List Want) (number : ℕ) (p : GroupPhase) : Type 0 where
  pub want : member_of group number ≡ Some p.want
  pub number_is : p.number ≡ number
  pub members : p.members ≡ length group
  pub length_is : p.length ≡ phase_length (group_spans timing group) (length group) number

-- the group of the oldest erase, which goes where the other one waits for mates
abbrev pub other_group : Rules → List Waiter → List Want
other_group rules ready = if is_open rules ready then erase_group rules ready else []

-- what a LUN would begin of what waits for it, and in place of that; whether it is open; and whether a read waits
pub record IsLunOffer (timing : Timing) (rules : Rules) (waiting : List Waiter) (offer : LunOffer) : Type 0 where
  pub group : IsBegin timing (own_group rules (firsts waiting)) offer.group
  pub erase : IsBegin timing (other_group rules (firsts waiting)) offer.erase
  pub opened : offer.is_open ≡ is_open rules (firsts waiting)
  pub reads : offer.reads ≡ list_any (is_kind Read) waiting

-- where a LUN runs nothing its offer is that of what waits for it
pub record IsLun (timing : Timing) (rules : Rules) (l : LunBooks) : Type 0 where
  pub going : 1 ≤ l.run.members → IsGoing timing l.run
  pub offered : l.run.members ≡ 0 → IsLunOffer timing rules (waiters_in (slots_in l.line)) l.offer

-- one of the two that a LUN offers
abbrev pub begin_of : LunOffer → Bool → Begin
begin_of offer erase = if erase then offer.erase else offer.group

-- the next phase of what the LUN runs went from `started` on, and ended then
pub record HasGoneOn (timing : Timing) (rules : Rules) (old new : LunBooks) (started ended : ℕ) : Type 0 where
  pub ends : ended ≡ started + phase_length (group_spans timing (wants_in (runs old.run))) (length (wants_in (runs old.run))) old.run.next
  pub state : state_in new.run ≡ lun_after timing (wants_in (runs old.run)) old.run.next ended
  pub line : slots_in new.line ≡ slots_in old.line
  pub is : IsLun timing rules new

-- a group that the LUN offered began at `started`, and its first command ended then
pub record HasBegun (timing : Timing) (rules : Rules) (lun : ℕ) (erase : Bool) (group : List Want) (old new : LunBooks) (started ended : ℕ) : Type 0 where
  pub ends : ended ≡ started + (group_spans timing group).cmd
  pub state : state_in new.run ≡ lun_after timing group 0 ended
  pub line : slots_in new.line ≡ left_of lun (begin_of old.offer erase) (slots_in old.line)
  pub is : IsLun timing rules new
