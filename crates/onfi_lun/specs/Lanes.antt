-- The LUNs of a channel in their typed phases, beside those of its chip.
use Rattle.std.specs.Prelude.{◌≡◌, ◌≢◌, ℕ, ◌<◌, ◌≤◌, ◌^◌, List, length, Some, slice_get}
use Rattle.onfi_addr.specs.declared.geometry.Geometry.{Geometry}
use Rattle.onfi_request.specs.declared.request.Item.{Item}
use Rattle.onfi_request.specs.declared.request.Request.{Request}
use Rattle.onfi_request.specs.Range.{Fits}
use Rattle.onfi_chip.specs.declared.fetch.Fetch.{Fetch}
use Rattle.onfi_chip.specs.declared.post.Post.{Post}
use Rattle.onfi_chip.specs.Chip.{Chip, taken}
use Rattle.onfi_chip.specs.Fetching.{IsNextFetch}
use Rattle.onfi_flight.specs.declared.due.Due.{Due}
use Rattle.onfi_lun.specs.Drive.{MayRun}
use Rattle.onfi_lun.specs.declared.lanes.any_lun.AnyLun.{AnyLun}
use Rattle.onfi_lun.specs.declared.lanes.any_lun.AnyLun.TheVariants.{Idle, Queuing, Working, Posting, Moving}
use Rattle.onfi_lun.specs.declared.lun.Commanded.{Commanded}
use Rattle.onfi_lun.specs.declared.lun.Commanded.TheVariants as commanded
use Rattle.onfi_lun.specs.declared.lun.Posted.{Posted}
use Rattle.onfi_lun.specs.declared.lun.Posted.TheVariants as behind
use Rattle.onfi_lun.specs.declared.target.Target.{Target}
use Rattle.onfi_lun.specs.Phases.{IsOf, IsIdle, IsQueuing, IsWorking, IsPosting}

-- which LUN of the chip it is
abbrev pub number_in : AnyLun → ℕ
number_in (Idle lun) = lun.number
number_in (Queuing lun) = lun.number
number_in (Working lun) = lun.number
number_in (Posting lun) = lun.number
number_in Moving = 0

-- the chip's LUN of its number is in that phase
abbrev pub IsThere : Chip → AnyLun → Type 0
IsThere chip (Idle lun) = IsIdle chip lun
IsThere chip (Queuing lun) = (requests : List Request) × IsQueuing chip lun requests
IsThere chip (Working lun) = (posts : List Post) × IsWorking chip lun posts
IsThere chip (Posting lun) = (posts : List Post) × IsPosting chip lun posts
IsThere chip Moving = ⊥

-- there is one for each LUN of the chip, by number, in the phase that the chip's is in
pub record LanesAgree (chip : Chip) (lanes : List AnyLun) : Type 0 where
  pub count : length lanes ≡ length chip.luns
  pub number : (at : ℕ) (lun : AnyLun) → slice_get lanes at ≡ Some lun → number_in lun ≡ at
  pub there : (at : ℕ) (lun : AnyLun) → slice_get lanes at ≡ Some lun → IsThere chip lun

-- nothing runs on the LUN of that number
abbrev pub IsIdleAt : ℕ → AnyLun → Type 0
IsIdleAt number (Idle lun) = lun.number ≡ number
IsIdleAt number (Queuing lun) = ⊥
IsIdleAt number (Working lun) = ⊥
IsIdleAt number (Posting lun) = ⊥
IsIdleAt number Moving = ⊥

-- idle LUNs, by number
pub record AreIdle (count : ℕ) (lanes : List AnyLun) : Type 0 where
  pub count_is : length lanes ≡ count
  pub each : (at : ℕ) (lun : AnyLun) → slice_get lanes at ≡ Some lun → IsIdleAt at lun

-- The phase of the member that has this item may run: it is the next call of its LUN, which took all commands of the group before it.
pub record MayRunDue (target : Target) (chip : Chip) (due : Due) (item : Item) : Type 0 where
  pub of : IsOf target chip
  pub may_run : MayRun chip target.geometry due item
  pub fits : Fits target.geometry item.request
  pub lun : item.request.place.lun ≡ due.lun
  pub before : due.phase < length due.group → length (taken (slice_get chip.luns due.lun)) ≡ due.phase
  pub time : due.start < 2 ^ 63

-- every LUN but that one is as it was
abbrev pub OthersKept : ℕ → List AnyLun → List AnyLun → Type 0
OthersKept number old new = (other : ℕ) → other ≢ number → slice_get new other ≡ slice_get old other

-- Posts

-- the post is the next call of the chip's group, of that kind and at that place
pub record IsPostOf (geometry : Geometry) (chip : Chip) (now : ℕ) (fetch : Fetch) (post : Post) (left : List Post) : Type 0 where
  pub fetch_is : IsNextFetch geometry chip now fetch post left
  pub place : post.place ≡ fetch.place

-- its posts may be fetched at that moment
abbrev pub IsRipe : ℕ → AnyLun → Type 0
IsRipe now (Idle lun) = ⊥
IsRipe now (Queuing lun) = ⊥
IsRipe now (Working lun) = lun.state.ready ≤ now
IsRipe now (Posting lun) = Unit {0}
IsRipe now Moving = ⊥

-- its array works at that moment, by what is stated
abbrev pub Works : ℕ → AnyLun → Type 0
Works now (Idle lun) = ⊥
Works now (Queuing lun) = ⊥
Works now (Working lun) = now < lun.state.ready
Works now (Posting lun) = ⊥
Works now Moving = ⊥

-- its array works, or is over and nothing of it was posted
abbrev pub IsInArray : AnyLun → Type 0
IsInArray (Idle lun) = ⊥
IsInArray (Queuing lun) = ⊥
IsInArray (Working lun) = Unit {0}
IsInArray (Posting lun) = ⊥
IsInArray Moving = ⊥

-- how many posts are left, and from when on the next may start
abbrev pub left_in : AnyLun → ℕ
left_in (Idle lun) = 0
left_in (Queuing lun) = 0
left_in (Working lun) = lun.state.members
left_in (Posting lun) = lun.state.left
left_in Moving = 0

abbrev pub ready_in : AnyLun → ℕ
ready_in (Idle lun) = 0
ready_in (Queuing lun) = lun.state.ready
ready_in (Working lun) = lun.state.ready
ready_in (Posting lun) = lun.state.ready
ready_in Moving = 0

-- the LUN that a move answered
abbrev pub behind_command : Commanded → AnyLun
behind_command (commanded.More lun) = Queuing lun
behind_command (commanded.Last lun) = Working lun

abbrev pub behind_post : Posted → AnyLun
behind_post (behind.More lun) = Posting lun
behind_post (behind.Last lun) = Idle lun
