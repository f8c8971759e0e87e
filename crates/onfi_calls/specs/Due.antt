-- The phase that is due, as a plain struct gives it.
use Rattle.std.specs.Prelude.{◌≡◌, ◌⊎◌, ℕ, ◌+◌, ◌*◌, ◌%◌, ◌==◌, nat_le, Bool, true, false, List, length, Some}
use Rattle.onfi_addr.specs.declared.geometry.Geometry.{Geometry}
use Rattle.onfi_addr.specs.declared.place.Place.{Place}
use Rattle.onfi_addr.specs.Rows.{IsInRange, row_of}
use Rattle.onfi_timing.specs.declared.kind.Kind.{Kind}
use Rattle.onfi_timing.specs.declared.kind.Kind.TheVariants.{Read, Program, Erase, ReadSectors}
use Rattle.onfi_timing.specs.declared.operation.Operation.{Operation}
use Rattle.onfi_timing.specs.declared.operation.Operation.TheVariants.{Read as Reads, Program as Programs, Erase as Erases}
use Rattle.onfi_timing.specs.declared.timing.Timing.{Timing}
use Rattle.onfi_timing.specs.Kinds.{operation_of}
use Rattle.onfi_timing.specs.Phases.{phase_length}
use Rattle.onfi_request.specs.declared.want.Want.{Want}
use Rattle.onfi_group.specs.Group.{group_spans}
use Rattle.onfi_problem.specs.Moves.{IsDone}
use Rattle.onfi_flight.specs.declared.due.Due.{Due}
use Rattle.onfi_flight.specs.Flight.{Flight, IsDue, IsOver, IsStuck, member_of}
use Rattle.onfi_calls.specs.declared.channel.PlainChannel.{PlainChannel}
use Rattle.onfi_calls.specs.declared.device.PlainGeometry.{PlainGeometry}
use Rattle.onfi_calls.specs.declared.channel.PlainWant.{PlainWant}
use Rattle.onfi_calls.specs.declared.phase.PlainPhase.{PlainPhase}
use Rattle.onfi_calls.specs.declared.schedule.PlainSchedule.{PlainSchedule}
use Rattle.onfi_calls.specs.declared.status.Status.{Status}
use Rattle.onfi_calls.specs.declared.status.Status.TheVariants.{BadGeometry, BadPlace, Illegal, NothingDue}
use Rattle.onfi_calls.specs.Device.{written_geometry}
use Rattle.onfi_calls.specs.Flights.{IsFlightSaid, IsNoFlight}
use Rattle.onfi_calls.specs.Geometry.{IsNoGeometry}
use Rattle.onfi_calls.specs.Status.{number_of}

-- kinds as numbers: of the operation, and above it how many sectors a read puts out
abbrev pub number_of_kind : Kind → ℕ
number_of_kind Read = 0
number_of_kind Program = 1
number_of_kind Erase = 2
number_of_kind (ReadSectors first count) = count % 8 * 32

-- the first command byte of a phase: 00h, 80h and 60h; of the posts Change Read Column Enhanced, 06h, and Read Status Enhanced, 78h
abbrev pub opener_of : Operation → Bool → ℕ
opener_of Reads false = 0
opener_of Programs false = 128
opener_of Erases false = 96
opener_of Reads true = 6
opener_of Programs true = 120
opener_of Erases true = 120

-- the last one: 30h, 10h and D0h after the last plane of a group, 32h, 11h and D1h after another; of a data output E0h, and a status has none
abbrev pub closer_of : Operation → Bool → Bool → ℕ
closer_of Reads false true = 48
closer_of Reads false false = 50
closer_of Programs false true = 16
closer_of Programs false false = 17
closer_of Erases false true = 208
closer_of Erases false false = 209
closer_of Reads true last = 224
closer_of Programs true last = 0
closer_of Erases true last = 0

-- the page of a want
abbrev pub page_of : Want → Place
page_of w = record { lun = w.lun; block = w.block; page = w.page }

-- phase `number` of a group, which is that of this member
abbrev pub written_phase : Timing → Geometry → List Want → Want → ℕ → ℕ → PlainPhase
written_phase timing geometry group member start number = record {
  start = start;
  end = start + phase_length (group_spans timing group) (length group) number;
  want = member.id;
  row = row_of geometry (page_of member);
  block = member.block;
  page = member.page;
  lun = member.lun;
  kind = number_of_kind member.kind;
  number = number;
  members = length group;
  opener = opener_of (operation_of member.kind) (nat_le (length group) number);
  closer = closer_of (operation_of member.kind) (nat_le (length group) number) (number + 1 == length group);
  row_cycles = geometry.row_address_cycles;
  is_post = nat_le (length group) number;
}

-- the member of a group whose phase it is
abbrev pub IsMember : List Want → ℕ → Want → Type 0
IsMember group number member = member_of group number ≡ Some member

-- phase `number` of a group, as a plain struct gives it
pub record IsWritten (timing : Timing) (geometry : Geometry) (group : List Want) (start number : ℕ) (phase : PlainPhase) : Type 0 where
  pub member : Want
  pub is : IsMember group number member
  pub there : IsInRange geometry (page_of member)
  pub written : phase ≡ written_phase timing geometry group member start number

-- the device doesn't have the page of its member
pub record IsOutside (geometry : Geometry) (group : List Want) (number : ℕ) : Type 0 where
  pub member : Want
  pub is : IsMember group number member
  pub not_there : IsInRange geometry (page_of member) → ⊥

-- the due phase on the device that is said
abbrev pub IsOnDevice : Timing → PlainGeometry → Due → PlainPhase → Type 0
IsOnDevice timing geometry due phase = (device : Geometry) × (geometry ≡ written_geometry device) × IsWritten timing device due.group due.start due.phase phase

-- why it is on none: no device is said, or one that doesn't have the page
abbrev pub IsOffDevice : PlainGeometry → Due → Status → Type 0
IsOffDevice geometry due status =
    (IsNoGeometry geometry × (status ≡ BadGeometry))
    ⊎ ((device : Geometry) × (geometry ≡ written_geometry device) × IsOutside device due.group due.phase × (status ≡ BadPlace))

-- what is answered where nothing is left to do
abbrev pub IsOverTold : PlainGeometry → Status → Type 0
IsOverTold geometry status = (IsNoGeometry geometry × (status ≡ BadGeometry)) ⊎ ((device : Geometry) × (geometry ≡ written_geometry device) × (status ≡ NothingDue))

-- the phase that is due of what is said: the undone one of least start, which may run; of a legal schedule that which comes next
pub record IsDueSaid (channel : PlainChannel) (wants : List PlainWant) (geometry : PlainGeometry) (schedule : PlainSchedule) (phase : PlainPhase) : Type 0 where
  pub flight : Flight
  pub said : IsFlightSaid channel wants schedule flight
  pub due : Due
  pub is : IsDue flight due
  pub on : IsOnDevice flight.now.timing geometry due phase

-- why none is given: the first of these
pub data IsNoneDue (channel : PlainChannel) (wants : List PlainWant) (geometry : PlainGeometry) (schedule : PlainSchedule) (status : Status) : Type 0 where
  is_no_flight : IsNoFlight channel wants schedule status → IsNoneDue channel wants geometry schedule status
  is_illegal : (f : Flight) → IsFlightSaid channel wants schedule f → IsStuck f → status ≡ Illegal → IsNoneDue channel wants geometry schedule status
  is_over : (f : Flight) → IsFlightSaid channel wants schedule f → IsOver f.left → IsDone f.now → IsOverTold geometry status → IsNoneDue channel wants geometry schedule status
  is_off : (f : Flight) → IsFlightSaid channel wants schedule f → (due : Due) → IsDue f due → IsOffDevice geometry due status → IsNoneDue channel wants geometry schedule status

-- a caller is given the phase that is due, or a number that says why there is none, and nothing else
pub data GivesDue (channel : PlainChannel) (wants : List PlainWant) (geometry : PlainGeometry) (schedule : PlainSchedule) (old new : PlainPhase) (result : ℕ) : Type 0 where
  gives_due : IsDueSaid channel wants geometry schedule new → result ≡ 0 → GivesDue channel wants geometry schedule old new result
  refuses_due : (status : Status) → IsNoneDue channel wants geometry schedule status → new ≡ old → result ≡ number_of status → GivesDue channel wants geometry schedule old new result
