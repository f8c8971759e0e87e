-- What stands after a phase that ran.
use Rattle.std.specs.Prelude.{◌≡◌, ◌⊎◌, ℕ, ◌<◌, ◌≤◌, ◌^◌, List, length, drop, map, replicate, Option, Some, None, slice_get, slice_index_or, slice_set}
use Rattle.onfi_request.specs.declared.want.Want.{Want}
use Rattle.onfi_problem.specs.declared.lun_state.LunState.{LunState}
use Rattle.onfi_problem.specs.declared.lun_state.LunState.TheVariants.{Free, Running}
use Rattle.onfi_problem.specs.Left.{horizon, InLimits}
use Rattle.onfi_problem.specs.Moves.{IsDone}
use Rattle.onfi_problem.specs.Problem.{HasLengths}
use Rattle.onfi_schedule.specs.Schedule.{Legal}
use Rattle.onfi_flight.specs.declared.due.Due.{Due}
use Rattle.onfi_flight.specs.Flight.{Flight, IsDue, IsOver, IsStuck, after_late, latest_late}
use Rattle.onfi_calls.specs.declared.channel.PlainChannel.{PlainChannel}
use Rattle.onfi_calls.specs.declared.channel.PlainLun.{PlainLun}
use Rattle.onfi_calls.specs.declared.channel.PlainWant.{PlainWant}
use Rattle.onfi_calls.specs.declared.ran.Behind.{Behind}
use Rattle.onfi_calls.specs.declared.schedule.PlainSchedule.{PlainSchedule}
use Rattle.onfi_calls.specs.declared.status.Status.{Status}
use Rattle.onfi_calls.specs.declared.status.Status.TheVariants.{TooMany, Clock, Illegal, NothingDue, NotDue, TooSoon}
use Rattle.onfi_calls.specs.Flights.{IsFlightSaid, IsNoFlight}
use Rattle.onfi_calls.specs.Problem.{IsSaid}
use Rattle.onfi_calls.specs.Status.{number_of}
use Rattle.onfi_calls.specs.PlainSchedule.{filled, written_schedule, written_want}

abbrev pub no_want : PlainWant
no_want = record { id = 0; kind = 0; lun = 0; block = 0; page = 0 }

-- how a LUN names its group: as it did, or where the group is a new one as this
abbrev pub telling : List PlainLun → Option ℕ → ℕ → List Want → PlainLun
telling luns None lun group = slice_index_or luns lun (record { since = 0; members = 0; next = 0; member = replicate 4 no_want })
telling luns (Some at) lun group = record { since = 0; members = length group; next = 0; member = filled 4 no_want (map written_want group) }

-- a LUN that names its group so, once it does this
abbrev pub lun_in : LunState → PlainLun → PlainLun
lun_in (Free since) lun = record { since = since; members = 0; next = 0; member = lun.member }
lun_in (Running group next ready) lun = record { since = ready; members = lun.members; next = next; member = lun.member }

-- what stands after the phase that was due, of a flight as it stands then
pub record IsBehind (luns : List PlainLun) (due : Due) (f : Flight) (b : Behind) : Type 0 where
  pub bus_free : b.bus_free ≡ f.now.bus_free
  pub lun : (state : LunState) → slice_get f.now.luns due.lun ≡ Some state → b.lun ≡ lun_in state (telling luns due.place due.lun due.group)
  pub wants : b.wants.items ≡ map written_want f.now.wants
  pub schedule : b.schedule ≡ written_schedule f.left

-- what a caller keeps of a channel; these wants wait
pub record Kept : Type 0 where
  pub channel : PlainChannel
  pub wants : List PlainWant
  pub schedule : PlainSchedule

-- the channel once its bus is free then, and that LUN does this
abbrev pub channel_then : PlainChannel → ℕ → ℕ → PlainLun → PlainChannel
channel_then channel bus_free lun now = record channel { bus_free = bus_free; lun = slice_set channel.lun lun now }

-- what is kept once a phase of that LUN ran
abbrev pub kept_behind : Kept → ℕ → Behind → Kept
kept_behind old lun b = record {
  channel = channel_then old.channel b.bus_free lun b.lun;
  wants = b.wants.items;
  schedule = b.schedule;
}

-- the problem that is kept, and what is left of its schedule
abbrev pub Flies : Kept → Flight → Type 0
Flies k f = IsFlightSaid k.channel k.wants k.schedule f

-- the phase that is due is of that LUN and has that number
pub record IsDueThere (f : Flight) (due : Due) (lun number : ℕ) : Type 0 where
  pub is : IsDue f due
  pub lun_is : due.lun ≡ lun
  pub number_is : due.phase ≡ number

-- the phase that was due ran from `started` on: what is kept then is the problem that it leaves, in the limits and with the
-- lengths that each call asks, and all other phases, later by as much as it was: a legal schedule of it where it was legal before
pub record IsRan (old new : Kept) (lun number started : ℕ) : Type 0 where
  pub flight : Flight
  pub said : Flies old flight
  pub due : Due
  pub there : IsDueThere flight due lun number
  pub on_time : due.start ≤ started
  pub legal : Legal flight.now flight.left → Legal (after_late flight due started).now (after_late flight due started).left
  pub after : IsSaid new.channel new.wants (after_late flight due started).now
  pub limits : InLimits (after_late flight due started).now
  pub measured : HasLengths (after_late flight due started).now
  pub later : new.schedule ≡ written_schedule (after_late flight due started).left

-- this phase, or one that is left, would start at 2^62 or later; or what is left could reach it, so that each later call would
-- refuse it
abbrev pub IsLate : Flight → Due → ℕ → Type 0
IsLate f due started = (2 ^ 62 ≤ latest_late f due started) ⊎ (2 ^ 62 ≤ horizon (after_late f due started).now)

-- why nothing is done: the first of these
pub data IsNotRan (old : Kept) (lun number started : ℕ) (status : Status) : Type 0 where
  is_no_flight : IsNoFlight old.channel old.wants old.schedule status → IsNotRan old lun number started status
  is_illegal : (f : Flight) → Flies old f → IsStuck f → status ≡ Illegal → IsNotRan old lun number started status
  is_over : (f : Flight) → Flies old f → IsOver f.left → IsDone f.now → status ≡ NothingDue → IsNotRan old lun number started status
  is_not_due : (f : Flight) → Flies old f → (due : Due) → IsDue f due → ((due.lun ≡ lun) × (due.phase ≡ number) → ⊥) → status ≡ NotDue → IsNotRan old lun number started status
  is_too_soon : (f : Flight) → Flies old f → (due : Due) → IsDueThere f due lun number → started < due.start → status ≡ TooSoon → IsNotRan old lun number started status
  is_late : (f : Flight) → Flies old f → (due : Due) → IsDueThere f due lun number → due.start ≤ started → IsLate f due started → status ≡ Clock
      → IsNotRan old lun number started status

-- all is as it was
pub record IsSame (old new : Kept) (room_old room_new : List PlainWant) (count_old count_new : ℕ) : Type 0 where
  pub kept : new ≡ old
  pub room : room_new ≡ room_old
  pub count : count_new ≡ count_old

-- a caller keeps what stands after the phase, and wants after those that wait are as they were; or all is as it was, and a
-- number says why
pub data GivesRan (old new : Kept) (room_old room_new : List PlainWant) (count_old count_new : ℕ) (lun number started result : ℕ) : Type 0 where
  gives_ran : IsRan old new lun number started → count_new ≤ count_old → drop count_new room_new ≡ drop count_new room_old → result ≡ 0
      → GivesRan old new room_old room_new count_old count_new lun number started result
  is_many : 8 < count_old → IsSame old new room_old room_new count_old count_new → result ≡ number_of TooMany
      → GivesRan old new room_old room_new count_old count_new lun number started result
  refuses_ran : (status : Status) → IsNotRan old lun number started status → IsSame old new room_old room_new count_old count_new → result ≡ number_of status
      → GivesRan old new room_old room_new count_old count_new lun number started result
