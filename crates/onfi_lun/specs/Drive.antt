-- A bus phase on the chip.
use Rattle.std.specs.Prelude.{◌≡◌, ◌≢◌, ◌⊎◌, ℕ, ◌+◌, ◌<◌, ◌≤◌, ◌==◌, if◌then◌else◌, List, length}
use Rattle.onfi_addr.specs.Rows.{row_of}
use Rattle.onfi_addr.specs.declared.geometry.Geometry.{Geometry}
use Rattle.onfi_timing.specs.declared.operation.Operation.TheVariants.{Read}
use Rattle.onfi_timing.specs.Kinds.{operation_of, sectors_of}
use Rattle.onfi_request.specs.declared.request.Item.{Item}
use Rattle.onfi_request.specs.declared.want.Want.{Want}
use Rattle.onfi_chip.specs.declared.closer.Closer.{Closer}
use Rattle.onfi_chip.specs.declared.closer.Closer.TheVariants.{More, Last}
use Rattle.onfi_chip.specs.declared.fault.ChipFault.{ChipFault}
use Rattle.onfi_chip.specs.declared.fault.ChipFault.TheVariants as chip_fault
use Rattle.onfi_chip.specs.declared.fault.PostFault.{PostFault}
use Rattle.onfi_chip.specs.declared.fault.PostFault.TheVariants as post
use Rattle.onfi_chip.specs.declared.post.Post.{Post}
use Rattle.onfi_chip.specs.Calls.{IsNextCommand, IsNextPost, command_of, HasDone, IsLost}
use Rattle.onfi_chip.specs.Chip.{Chip, posted}
use Rattle.onfi_flight.specs.declared.due.Due.{Due}
use Rattle.onfi_lun.specs.declared.drive.DriveFault.{DriveFault}
use Rattle.onfi_lun.specs.declared.drive.DriveFault.TheVariants.{Bus, NotReady, Memory}
use Rattle.onfi_lun.specs.declared.phase_result.PhaseResult.{PhaseResult}
use Rattle.onfi_lun.specs.declared.phase_result.PhaseResult.TheVariants as ran

-- what closes the group's command of that number
abbrev pub closer_of : List Want → ℕ → Closer
closer_of group number = if number + 1 == length group then Last else More

-- the phase, of the member that has this item, is the next call of its LUN
pub record MayRun (chip : Chip) (geometry : Geometry) (due : Due) (item : Item) : Type 0 where
  pub geometry_is : chip.geometry ≡ geometry
  pub command : due.phase < length due.group → IsNextCommand chip due.start (row_of geometry item.request.place) item.request.kind item.request.bytes item.request
  pub post : length due.group ≤ due.phase → (post : Post) × (left : List Post) × IsNextPost chip due.start (row_of geometry item.request.place) post left × (post.kind ≡ item.request.kind)

-- the phase happened on the chip, which gave that
abbrev pub HasRun : Chip → Geometry → Due → Item → PhaseResult → Chip → Type 0
HasRun chip geometry due item ran.Command chip' = (due.phase < length due.group) × HasDone (command_of (closer_of due.group due.phase) chip item.request due.start) chip'
HasRun chip geometry due item (ran.Post answer) chip' =
    (length due.group ≤ due.phase)
    × ((post : Post) (left : List Post) → IsNextPost chip due.start (row_of geometry item.request.place) post left → (answer ≡ post.answer) × HasDone (posted chip post left due.start) chip')

-- the phase is the output of some sectors, of which the chip has none: it is as it was
pub record HasNoSectors (due : Due) (item : Item) (old new : Chip) : Type 0 where
  pub post : length due.group ≤ due.phase
  pub sectors : 1 ≤ sectors_of item.request.kind
  pub same : new ≡ old

-- where it didn't happen: where memory was refused the chip is unchanged, else its count of that fault rose, or it has no sectors
abbrev pub AfterDrive : Due → Item → DriveFault → Chip → Chip → Type 0
AfterDrive due item Bus old new = IsLost post.Bus old new ⊎ HasNoSectors due item old new
AfterDrive due item NotReady old new = IsLost post.NotReady old new
AfterDrive due item Memory old new = new ≡ old

-- the phase is the status of a program or an erase
abbrev pub IsStatus : Due → Item → Type 0
IsStatus due item = (length due.group ≤ due.phase) × (operation_of item.request.kind ≢ Read)

-- why a command wasn't taken, as why its phase wasn't run
abbrev pub fault_of_command : ChipFault → DriveFault
fault_of_command chip_fault.Bus = Bus
fault_of_command chip_fault.Memory = Memory

-- why a post gave no answer, as why its phase wasn't run
abbrev pub fault_of_post : PostFault → DriveFault
fault_of_post post.Bus = Bus
fault_of_post post.NotReady = NotReady
