-- What a chip's calls ask for, and what they leave.
use Rattle.std.specs.Prelude.{◌≡◌, ◌⊎◌, ℕ, ◌<◌, ◌≤◌, true, List, ◌∷◌, Option, Some, None, All, IsBitSet, slice_get}
use Rattle.onfi_addr.specs.declared.geometry.Geometry.{Geometry}
use Rattle.onfi_addr.specs.Rows.{IsInRange, row_of, plane_of_block}
use Rattle.onfi_timing.specs.declared.kind.Kind.{Kind}
use Rattle.onfi_timing.specs.Kinds.{operation_of, sectors_of}
use Rattle.onfi_request.specs.declared.answer.Answer.{Answer}
use Rattle.onfi_request.specs.declared.answer.Answer.TheVariants.{Read, Done, Failed}
use Rattle.onfi_request.specs.declared.request.Request.{Request}
use Rattle.onfi_request.specs.Parts.{bytes_out, first_column, has_part}
use Rattle.onfi_request.specs.Range.{Fits}
use Rattle.onfi_chip.specs.declared.closer.Closer.{Closer}
use Rattle.onfi_chip.specs.declared.closer.Closer.TheVariants.{More, Last}
use Rattle.onfi_chip.specs.declared.fault.ChipFault.{ChipFault}
use Rattle.onfi_chip.specs.declared.fault.ChipFault.TheVariants.{Bus, Memory}
use Rattle.onfi_chip.specs.declared.fault.PostFault.{PostFault}
use Rattle.onfi_chip.specs.declared.fault.PostFault.TheVariants as post
use Rattle.onfi_chip.specs.declared.post.Post.{Post}
use Rattle.onfi_chip.specs.Chip.{Chip, Failures, Lun, commanded, launched}
use Rattle.onfi_chip.specs.Chip.Lun.{Idle, Commanding, Posting}

-- the request that a command carries, and the device takes
pub record IsCarried (geometry : Geometry) (row : ℕ) (kind : Kind) (bytes : List ℕ) (r : Request) : Type 0 where
  pub kind_is : r.kind ≡ kind
  pub row_is : row_of geometry r.place ≡ row
  pub bytes_are : r.bytes ≡ bytes
  pub fits : Fits geometry r

-- the request may join a group after these: one operation, one page, and a plane above theirs
abbrev pub MayJoin : Geometry → Request → Request → Type 0
MayJoin geometry r earlier =
    (operation_of earlier.kind ≡ operation_of r.kind) × (earlier.place.page ≡ r.place.page) × (plane_of_block geometry earlier.place.block < plane_of_block geometry r.place.block)

-- the LUN may take the request at this moment: it is idle, or the wait between the commands of its group is over
abbrev pub MayTake : Geometry → ℕ → Request → Option Lun → Type 0
MayTake geometry now r (Some Idle) = Unit {0}
MayTake geometry now r (Some (Commanding requests ready)) = (ready ≤ now) × All (MayJoin geometry r) requests
MayTake geometry now r (Some (Posting posts ready)) = ⊥
MayTake geometry now r None = ⊥

-- a command is the next call of its LUN's group
pub record IsNextCommand (chip : Chip) (now row : ℕ) (kind : Kind) (bytes : List ℕ) (r : Request) : Type 0 where
  pub carried : IsCarried chip.geometry row kind bytes r
  pub may_take : MayTake chip.geometry now r (slice_get chip.luns r.place.lun)

-- a post is the next call of its LUN's group, and the wait before it is over
pub record IsNextPost (chip : Chip) (now row : ℕ) (post : Post) (left : List Post) : Type 0 where
  pub ready : ℕ
  pub there : slice_get chip.luns post.place.lun ≡ Some (Posting (post ∷ left) ready)
  pub over : ready ≤ now
  pub in_range : IsInRange chip.geometry post.place
  pub part : has_part chip.geometry post.kind ≡ true
  pub row_is : row_of chip.geometry post.place ≡ row

-- the output of a kind's sectors: its column, and how many bytes it has
pub record IsOutput (geometry : Geometry) (kind : Kind) (column bytes : ℕ) : Type 0 where
  pub sectors : 1 ≤ sectors_of kind
  pub column_is : column ≡ first_column geometry kind
  pub bytes_are : bytes ≡ bytes_out geometry kind

abbrev pub command_of : Closer → Chip → Request → ℕ → Chip
command_of More chip r now = commanded chip r now
command_of Last chip r now = launched chip r now

-- neither count of failures is less than before
pub record AreNoFewer (old new : Failures) : Type 0 where
  pub bus : old.bus ≤ new.bus
  pub unready : old.unready ≤ new.unready

-- the count of that fault rose
abbrev pub HasRisen : PostFault → Failures → Failures → Type 0
HasRisen post.Bus old new = old.bus < new.bus
HasRisen post.NotReady old new = old.unready < new.unready

-- the call did what it is to do; its counts of failures may have risen all the same
pub record HasDone (after new : Chip) : Type 0 where
  pub state : new ≡ record after { failures = new.failures }
  pub count : AreNoFewer after.failures new.failures

-- nothing is known of the chip but its faults and its count of that fault, which rose
pub record IsLost (fault : PostFault) (old new : Chip) : Type 0 where
  pub faults : new.faults ≡ old.faults
  pub rose : HasRisen fault old.failures new.failures

-- an output of sectors failed: the chip has none, and is as it was, or its bus failed
abbrev pub IsUnread : Chip → Chip → Type 0
IsUnread old new = (new ≡ old) ⊎ IsLost post.Bus old new

-- the post is an output of sectors by a chip that has none, and is as it was
pub record IsRefused (kind : Kind) (fault : PostFault) (old new : Chip) : Type 0 where
  pub sectors : 1 ≤ sectors_of kind
  pub bus : fault ≡ post.Bus
  pub same : new ≡ old

-- a post of that kind gave no answer
abbrev pub IsMissed : Kind → PostFault → Chip → Chip → Type 0
IsMissed kind fault old new = IsLost fault old new ⊎ IsRefused kind fault old new

-- where memory was refused the chip is unchanged
abbrev pub AfterFault : ChipFault → Chip → Chip → Type 0
AfterFault Bus old new = IsLost post.Bus old new
AfterFault Memory old new = new ≡ old

-- what a status byte says of the answer: bit 0 is FAIL
pub record TellsAnswer (byte : ℕ) (answer : Answer) : Type 0 where
  pub failed : IsBitSet byte 0 → answer ≡ Failed
  pub done : ¬ IsBitSet byte 0 → answer ≡ Done

-- an answer that a status byte gives
abbrev pub IsStatus : Answer → Type 0
IsStatus (Read content) = ⊥
IsStatus Done = Unit {0}
IsStatus Failed = Unit {0}
