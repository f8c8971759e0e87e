-- The dies of a simulated chip: how their fields stand for a chip.
use Rattle.std.specs.Prelude.{◌≡◌, ◌≢◌, ℕ, ◌+◌, ◌<◌, nat_le, Bool, true, false, List, Option, Some, None, map}
use Rattle.std.specs.List.{AllByRecursion as Each}
use Rattle.onfi_addr.specs.declared.geometry.Geometry.{Geometry}
use Rattle.onfi_timing.specs.declared.timing.Timing.{Timing}
use Rattle.onfi_timing.specs.declared.operation.Operation.TheVariants.{Read}
use Rattle.onfi_timing.specs.Kinds.{operation_of}
use Rattle.onfi_request.specs.declared.request.Request.{Request}
use Rattle.onfi_die.specs.declared.shape.Shape.{Shape}
use Rattle.onfi_die.specs.Shapes.{shape_of}
use Rattle.onfi_die.specs.Prepared.{kind_of, HasRoom, IsAnswerTo}
use Rattle.onfi_die.specs.Requests.{request_of}
use Rattle.onfi_die.specs.Store.{Stored, IsKept, blocks_of}
use Rattle.onfi_chip.specs.declared.closer.Closer.{Closer}
use Rattle.onfi_chip.specs.declared.closer.Closer.TheVariants.{More, Last}
use Rattle.onfi_chip.specs.declared.lane.Lane.{Lane}
use Rattle.onfi_chip.specs.declared.lane.Lane.TheVariants as lane
use Rattle.onfi_chip.specs.declared.member.Member.{Member}
use Rattle.onfi_chip.specs.declared.post.Post.{Post}
use Rattle.onfi_chip.specs.declared.wait.Wait.{Wait}
use Rattle.onfi_chip.specs.Chip.{Chip, Lun, no_failures, queued, happened}
use Rattle.onfi_chip.specs.Chip.Lun.{Idle, Commanding, Posting}

-- what callers see of the dies
pub record Sim : Type 0 where
  pub geometry : Geometry
  pub timing : Timing
  pub store : Stored
  pub luns : List Lun

-- a chip of these dies, of which no call has failed
abbrev pub chip_of : Sim → Chip
chip_of sim = record {
  geometry = sim.geometry;
  timing = sim.timing;
  faults = sim.store.device.faults;
  blocks = blocks_of sim.store;
  luns = sim.luns;
  failures = no_failures;
}

abbrev pub over_at : Wait → ℕ
over_at wait = wait.from + wait.length

abbrev pub request_in : Member → Request
request_in member = request_of member.place member.operation

abbrev pub lun_of : Lane → Lun
lun_of lane.Idle = Idle
lun_of (lane.Commanding members wait) = Commanding (map request_in members.items) (over_at wait)
lun_of (lane.Posting posts wait) = Posting posts.items (over_at wait)

-- what a LUN waits for, if anything, is over by then
abbrev pub is_over : ℕ → Lun → Bool
is_over now Idle = true
is_over now (Commanding requests ready) = nat_le ready now
is_over now (Posting posts ready) = nat_le ready now

abbrev pub is_over_at : ℕ → Option Lun → Bool
is_over_at now None = false
is_over_at now (Some lun) = is_over now lun

-- a LUN that may take a command
abbrev pub IsOpen : Lun → Type 0
IsOpen Idle = Unit {0}
IsOpen (Commanding requests ready) = Unit {0}
IsOpen (Posting posts ready) = ⊥

-- there is a LUN, and it may take a command
abbrev pub IsOpenAt : Option Lun → Type 0
IsOpenAt (Some lun) = IsOpen lun
IsOpenAt None = ⊥

-- one more command of a group, with the end of the wait after it
abbrev pub added : Closer → Chip → Request → ℕ → Chip
added More chip r ready = queued chip r ready
added Last chip r ready = happened chip r ready

-- the member's operation can be done without memory
pub record IsReady (store : Stored) (member : Member) : Type 0 where
  pub kept : operation_of (kind_of member.operation) ≢ Read → IsKept member.place.lun member.place.block store
  pub page : member.place.page < store.device.shape.pages
  pub room : HasRoom store.device.shape.bytes member.operation

-- the post has an answer to its operation
abbrev pub IsPost : Shape → Post → Type 0
IsPost shape post = IsAnswerTo shape post.kind post.answer

-- what a lane waits for can be done
abbrev pub IsLane : Stored → Lane → Type 0
IsLane store lane.Idle = Unit {0}
IsLane store (lane.Commanding members wait) = Each (IsReady store) members.items
IsLane store (lane.Posting posts wait) = Each (IsPost store.device.shape) posts.items

pub record IsSim (geometry : Geometry) (store : Stored) (all : List Lane) : Type 0 where
  pub shape : store.device.shape ≡ shape_of geometry
  pub lanes : Each (IsLane store) all
