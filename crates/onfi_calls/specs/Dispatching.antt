-- A channel that goes phase by phase, kept in memory of the caller's.
use Rattle.std.specs.Prelude.{◌≡◌, ◌⊎◌, ℕ, ◌<◌, ◌≤◌, ◌^◌, ◌&&◌, nat_lt, not, max, if◌then◌else◌, Bool, true, false, List, [], ◌∷◌, Option, Some, None, slice_get}
use Rattle.std.specs.List.{list_any}
use Rattle.onfi_addr.specs.declared.geometry.Geometry.{Geometry}
use Rattle.onfi_timing.specs.declared.timing.Timing.{Timing}
use Rattle.onfi_request.specs.declared.want.Want.{Want}
use Rattle.onfi_group.specs.declared.rules.Rules.{Rules}
use Rattle.onfi_problem.specs.declared.lun_state.LunState.{LunState}
use Rattle.onfi_problem.specs.declared.lun_state.LunState.TheVariants.{Running}
use Rattle.onfi_problem.specs.Left.{InLimits}
use Rattle.onfi_problem.specs.Problem.{Problem, HasLengths}
use Rattle.onfi_flight.specs.Flight.{luns_ready_by}
use Rattle.onfi_steady.specs.declared.fault.AcceptFault.{AcceptFault}
use Rattle.onfi_steady.specs.declared.fault.RanFault.{RanFault}
use Rattle.onfi_steady.specs.declared.fault.ReadyFault.{ReadyFault}
use Rattle.onfi_steady.specs.declared.next.NextPhase.{NextPhase}
use Rattle.onfi_steady.specs.Dispatcher.{HasRun, IsCancelled, IsDue, IsOf, has_due, ran_refusal, ready_refusal, states_of}
use Rattle.onfi_steady.specs.Next.{IsIdle, IsNextPhase}
use Rattle.onfi_steady.specs.Waiting.{Books, channel}
use Rattle.onfi_calls.specs.declared.channel.PlainChannel.{PlainChannel}
use Rattle.onfi_calls.specs.declared.device.PlainGeometry.{PlainGeometry}
use Rattle.onfi_calls.specs.declared.plain_dispatcher.PlainDispatcher.{PlainDispatcher}
use Rattle.onfi_calls.specs.declared.channel.PlainLun.{PlainLun}
use Rattle.onfi_calls.specs.declared.channel.PlainWant.{PlainWant}
use Rattle.onfi_calls.specs.declared.phase.PlainPhase.{PlainPhase}
use Rattle.onfi_calls.specs.declared.status.Status.{Status}
use Rattle.onfi_calls.specs.declared.status.Status.TheVariants.{BadGeometry, BadKind, BadLun, BadPlace, Clock, NoLengths, NotWaiting, NothingDue}
use Rattle.onfi_calls.specs.AuditBegun.{no_schedule}
use Rattle.onfi_calls.specs.Device.{written_geometry}
use Rattle.onfi_calls.specs.Due.{IsOutside, IsWritten}
use Rattle.onfi_calls.specs.Flights.{IsNoFlight}
use Rattle.onfi_calls.specs.InOrder.{has_page}
use Rattle.onfi_calls.specs.Problem.{IsSaid, has_bad_kind, lacks_length, luns_of, members_of}
use Rattle.onfi_calls.specs.Geometry.{IsNoGeometry}
use Rattle.onfi_calls.specs.Status.{accept_status, number_of, ran_status, ready_status}

-- the device has the page that a request names
abbrev pub is_on : PlainGeometry → PlainWant → Bool
is_on g w = nat_lt w.lun g.lun_count && (nat_lt w.block g.blocks_per_lun && nat_lt w.page g.pages_per_block)

-- it lacks that of a member of what a LUN runs
abbrev pub has_outside : PlainGeometry → PlainLun → Bool
has_outside g lun = list_any (λ w. not (is_on g w)) (members_of lun)

-- nothing waits
abbrev pub no_books : Rules → Books
no_books rules = record { rules = rules; waiting = []; newest = None }

-- Begin

-- a dispatcher keeps this channel, of which nothing waits
pub record IsBegunOf (p : Problem) (channel : PlainChannel) (geometry : PlainGeometry) (d : PlainDispatcher) : Type 0 where
  pub is : IsOf p.timing (no_books p.rules) d.dispatcher
  pub states : states_of d.dispatcher ≡ p.luns
  pub bus_free : d.dispatcher.bus_free ≡ p.bus_free
  pub lengths_are : d.device.lengths ≡ channel.lengths
  pub geometry_is : d.device.geometry ≡ geometry
  pub there : list_any (has_outside geometry) (luns_of channel) ≡ false
  pub plane_bits : d.device.plane_bits ≡ channel.rules.plane_bits

-- .. the channel that is said
pub record IsBegun (channel : PlainChannel) (geometry : PlainGeometry) (d : PlainDispatcher) : Type 0 where
  pub problem : Problem
  pub said : IsSaid channel [] problem
  pub limits : InLimits problem
  pub measured : HasLengths problem
  pub of : IsBegunOf problem channel geometry d

-- no device is said, or one that lacks a page of what runs
abbrev pub IsNoDevice : PlainChannel → PlainGeometry → Status → Type 0
IsNoDevice channel geometry status = (IsNoGeometry geometry × (status ≡ BadGeometry)) ⊎ ((list_any (has_outside geometry) (luns_of channel) ≡ true) × (status ≡ BadPlace))

-- why none is kept: the first of these
pub data IsUnbegun (channel : PlainChannel) (geometry : PlainGeometry) (status : Status) : Type 0 where
  is_no_channel : IsNoFlight channel [] no_schedule status → IsUnbegun channel geometry status
  is_no_device : (p : Problem) → IsSaid channel [] p → InLimits p → HasLengths p → IsNoDevice channel geometry status
      → IsUnbegun channel geometry status

-- a caller keeps the channel; or a number says why not, and all is as it was
pub data GivesBegun (channel : PlainChannel) (geometry : PlainGeometry) (old new : PlainDispatcher) (result : ℕ) : Type 0 where
  begins : IsBegun channel geometry new → result ≡ 0 → GivesBegun channel geometry old new result
  begins_not : (status : Status) → IsUnbegun channel geometry status → new ≡ old → result ≡ number_of status → GivesBegun channel geometry old new result

-- Requests

-- why the device can't have a request: the first of these
abbrev pub want_refusal : PlainDispatcher → PlainWant → Option Status
want_refusal d w =
    if has_bad_kind w then Some BadKind else
    (if not (is_on d.device.geometry w) then Some BadPlace else
    (if has_page w then Some BadLun else
    (if lacks_length d.device.lengths w then Some NoLengths else None)))

-- .. or why its LUN can't
abbrev pub told : Option Status → Option AcceptFault → Option Status
told (Some status) fault = Some status
told None (Some fault) = Some (accept_status fault)
told None None = None

-- what waits is changed so, and nothing else; no phase is due
pub record IsTaken (more : Books → Books) (old new : PlainDispatcher) : Type 0 where
  pub books : (timing : Timing) (books : Books) → IsOf timing books old.dispatcher → IsOf timing (more books) new.dispatcher
  pub over : has_due new.dispatcher ≡ false
  pub states : states_of new.dispatcher ≡ states_of old.dispatcher
  pub bus_free : new.dispatcher.bus_free ≡ old.dispatcher.bus_free
  pub device : new.device ≡ old.device

-- a request is taken; or a number says why not, and all is as it was
pub data GivesTaken (refusal : Option Status) (more : Books → Books) (old new : PlainDispatcher) (result : ℕ) : Type 0 where
  takes : refusal ≡ None → IsTaken more old new → result ≡ 0 → GivesTaken refusal more old new result
  takes_not : (status : Status) → refusal ≡ Some status → new ≡ old → result ≡ number_of status → GivesTaken refusal more old new result

-- the request of that number waits no more, or none did
pub data GivesCancelled (old new : PlainDispatcher) (id result : ℕ) : Type 0 where
  cancels : ((timing : Timing) (books : Books) → IsOf timing books old.dispatcher → IsCancelled timing books id old.dispatcher new.dispatcher true)
      → has_due new.dispatcher ≡ false → states_of new.dispatcher ≡ states_of old.dispatcher → new.dispatcher.bus_free ≡ old.dispatcher.bus_free → new.device ≡ old.device → result ≡ 0
      → GivesCancelled old new id result
  cancels_none : ((timing : Timing) (books : Books) → IsOf timing books old.dispatcher → IsCancelled timing books id old.dispatcher new.dispatcher false)
      → new.device ≡ old.device → result ≡ number_of NotWaiting → GivesCancelled old new id result

-- Phases

-- the channel that is kept, as a problem from `now` on
abbrev pub channel_from : PlainDispatcher → ℕ → Timing → Books → Problem
channel_from d now timing books = channel timing (max d.dispatcher.bus_free now) (states_of d.dispatcher) books

-- the next phase of what the LUN runs, or the first of these members that begin on it, as a plain struct
abbrev pub IsPhaseSaid : Timing → Geometry → List LunState → ℕ → List Want → ℕ → PlainPhase → Type 0
IsPhaseSaid timing geometry luns lun [] start phase =
    (group : List Want) × (next : ℕ) × (ready : ℕ) × (slice_get luns lun ≡ Some (Running group next ready)) × IsWritten timing geometry group start next phase
IsPhaseSaid timing geometry luns lun (m ∷ ms) start phase = IsWritten timing geometry (m ∷ ms) start 0 phase

-- .. and the device doesn't have its page
abbrev pub IsPhaseOutside : Geometry → List LunState → ℕ → List Want → Type 0
IsPhaseOutside geometry luns lun [] =
    (group : List Want) × (next : ℕ) × (ready : ℕ) × (slice_get luns lun ≡ Some (Running group next ready)) × IsOutside geometry group next
IsPhaseOutside geometry luns lun (m ∷ ms) = IsOutside geometry (m ∷ ms) 0

-- the due phase as a plain struct, where it starts then
abbrev pub IsDueSaid : PlainDispatcher → ℕ → PlainPhase → Type 0
IsDueSaid d start phase =
    (start < 2 ^ 62) × ((timing : Timing) (books : Books) (next : NextPhase) → IsOf timing books d.dispatcher → IsDue d.dispatcher next
    → (geometry : Geometry) × (d.device.geometry ≡ written_geometry geometry) × IsPhaseSaid timing geometry (states_of d.dispatcher) next.lun next.members.items start phase)

-- why it has none
abbrev pub IsDueUnsaid : PlainDispatcher → ℕ → Status → Type 0
IsDueUnsaid d start status =
    ((2 ^ 62 ≤ start) × (status ≡ Clock))
    ⊎ ((timing : Timing) (books : Books) (next : NextPhase) → IsOf timing books d.dispatcher → IsDue d.dispatcher next
    → (geometry : Geometry) × (d.device.geometry ≡ written_geometry geometry) × IsPhaseOutside geometry (states_of d.dispatcher) next.lun next.members.items × (status ≡ BadPlace))

-- what is kept stays, but for what is due
pub record IsSeen (old new : PlainDispatcher) : Type 0 where
  pub books : (timing : Timing) (books : Books) → IsOf timing books old.dispatcher → IsOf timing books new.dispatcher
  pub states : states_of new.dispatcher ≡ states_of old.dispatcher
  pub bus_free : new.dispatcher.bus_free ≡ old.dispatcher.bus_free
  pub device : new.device ≡ old.device

-- the phase that is next, and which is due from now on
pub record IsNextGiven (timing : Timing) (books : Books) (old new : PlainDispatcher) (now : ℕ) (phase : PlainPhase) : Type 0 where
  pub next : NextPhase
  pub is : IsNextPhase books (channel_from old now timing books) next
  pub due : IsDue new.dispatcher next
  pub geometry : Geometry
  pub device : old.device.geometry ≡ written_geometry geometry
  pub said : IsPhaseSaid timing geometry (states_of old.dispatcher) next.lun next.members.items next.start phase

-- why no phase is given: nothing runs and nothing waits; or it would start too late, or the device lacks its page
pub data IsNoneNext (timing : Timing) (books : Books) (old : PlainDispatcher) (now : ℕ) (status : Status) : Type 0 where
  is_idle : IsIdle (channel_from old now timing books) → books.waiting ≡ [] → status ≡ NothingDue → IsNoneNext timing books old now status
  is_late : (next : NextPhase) → IsNextPhase books (channel_from old now timing books) next → 2 ^ 62 ≤ next.start → status ≡ Clock → IsNoneNext timing books old now status
  is_outside : (next : NextPhase) (geometry : Geometry) → IsNextPhase books (channel_from old now timing books) next → old.device.geometry ≡ written_geometry geometry
      → IsPhaseOutside geometry (states_of old.dispatcher) next.lun next.members.items → status ≡ BadPlace → IsNoneNext timing books old now status

-- a caller is given the phase that is next, or a number that says why there is none
pub data GivesNext (old new : PlainDispatcher) (now : ℕ) (before phase : PlainPhase) (result : ℕ) : Type 0 where
  gives_next : IsSeen old new → ((timing : Timing) (books : Books) → IsOf timing books old.dispatcher → IsNextGiven timing books old new now phase) → result ≡ 0
      → GivesNext old new now before phase result
  gives_none : (status : Status) → IsSeen old new → ((timing : Timing) (books : Books) → IsOf timing books old.dispatcher → IsNoneNext timing books old now status)
      → phase ≡ before → result ≡ number_of status → GivesNext old new now before phase result

-- the due phase ran; or a number says why not, and all is as it was
pub data GivesRun (old new : PlainDispatcher) (started result : ℕ) : Type 0 where
  runs_due : ran_refusal old.dispatcher started ≡ None → ((timing : Timing) (books : Books) → IsOf timing books old.dispatcher → HasRun timing books old.dispatcher new.dispatcher started)
      → has_due new.dispatcher ≡ false → new.device ≡ old.device → result ≡ 0 → GivesRun old new started result
  runs_not : (fault : RanFault) → ran_refusal old.dispatcher started ≡ Some fault → new ≡ old → result ≡ number_of (ran_status fault) → GivesRun old new started result

-- a LUN is ready early, and nothing else changes; or a number says why not, and all is as it was
pub record IsEarly (old new : PlainDispatcher) (lun moment : ℕ) : Type 0 where
  pub states : states_of new.dispatcher ≡ luns_ready_by moment lun (slice_get (states_of old.dispatcher) lun) (states_of old.dispatcher)
  pub books : (timing : Timing) (books : Books) → IsOf timing books old.dispatcher → IsOf timing books new.dispatcher
  pub over : has_due new.dispatcher ≡ false
  pub bus_free : new.dispatcher.bus_free ≡ old.dispatcher.bus_free
  pub device : new.device ≡ old.device

pub data GivesEarly (old new : PlainDispatcher) (lun moment result : ℕ) : Type 0 where
  is_early : ready_refusal old.dispatcher lun ≡ None → IsEarly old new lun moment → result ≡ 0 → GivesEarly old new lun moment result
  isnt_early : (fault : ReadyFault) → ready_refusal old.dispatcher lun ≡ Some fault → new ≡ old → result ≡ number_of (ready_status fault) → GivesEarly old new lun moment result
