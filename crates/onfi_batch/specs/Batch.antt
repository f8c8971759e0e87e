-- What a batch asks for, and what it gives.
use Rattle.std.specs.Prelude.{◌≡◌, ◌≢◌, ◌⊎◌, ℕ, List, Some, slice_get}
use Rattle.std.specs.List.{AllByRecursion as Each}
use Rattle.onfi_addr.specs.declared.geometry.Geometry.{Geometry}
use Rattle.onfi_timing.specs.declared.timing.Timing.{Timing}
use Rattle.onfi_request.specs.declared.want.Want.{Want}
use Rattle.onfi_request.specs.declared.fault.Fault.{Fault}
use Rattle.onfi_request.specs.declared.request.Item.{Item}
use Rattle.onfi_request.specs.declared.reply.Reply.{Reply}
use Rattle.onfi_request.specs.Range.{Fits}
use Rattle.onfi_die.specs.Shapes.{Device}
use Rattle.onfi_die.specs.Contents.{fresh, runs}
use Rattle.onfi_die.specs.Answers.{requests_on}
use Rattle.onfi_chip.specs.Chip.{Chip, Failures, opened}
use Rattle.onfi_chip.specs.Calls.{AreNoFewer, IsLost}
use Rattle.onfi_chip.specs.declared.fault.PostFault.TheVariants as post_fault
use Rattle.onfi_group.specs.Words.{Has}
use Rattle.onfi_problem.specs.declared.lun_state.LunState.TheVariants.{Running}
use Rattle.onfi_problem.specs.Problem.{Problem}
use Rattle.onfi_schedule.specs.Schedule.{Schedule}
use Rattle.onfi_batch.specs.declared.fault.BatchFault.{BatchFault}
use Rattle.onfi_batch.specs.declared.fault.BatchFault.TheVariants.{Bus, NotReady, Memory}
use Rattle.onfi_lun.specs.declared.drive.DriveFault.{DriveFault}
use Rattle.onfi_lun.specs.declared.drive.DriveFault.TheVariants as drive
use Rattle.onfi_core.specs.State.{wants_from}
use Rattle.onfi_batch.specs.Order.{StartsSectors}

-- a chip as it opened
abbrev pub IsOpened : Geometry → Timing → Chip → Type 0
IsOpened geometry timing chip = (faults : List Fault) × (failures : Failures) × (chip ≡ opened geometry timing faults failures)

-- the device takes the items, want i of the problem is item i, and nothing runs
pub record IsBatchOf (geometry : Geometry) (items : List Item) (problem : Problem) : Type 0 where
  pub fits : Each (λ x. Fits geometry x.request) items
  pub wants : problem.wants ≡ wants_from geometry 0 items
  pub nothing_runs : (lun : ℕ) (group : List Want) (next ready : ℕ) → slice_get problem.luns lun ≢ Some (Running group next ready)

-- each item has its reply
abbrev pub EachReplied : List Item → List Reply → Type 0
EachReplied items replies = (place : ℕ) (item : Item) → slice_get items place ≡ Some item → (r : Reply) × Has replies r × (r.place ≡ place)

-- each block holds what the items on it, run in their order, leave of an erased one
abbrev pub HoldsItems : Device → List Item → Chip → Type 0
HoldsItems device items chip = (lun block : ℕ) → chip.blocks lun block ≡ runs device (requests_on lun block items) (fresh device)

-- the chip's faults are the same, and its counts of failures are no less
pub record KeptSince (old new : Chip) : Type 0 where
  pub faults : new.faults ≡ old.faults
  pub failures : AreNoFewer old.failures new.failures

-- the schedule has an output of some sectors, of which the chip has none
pub record FindsNoSectors (schedule : Schedule) (old new : Chip) : Type 0 where
  pub output : StartsSectors schedule
  pub kept : KeptSince old new

-- what a fault leaves of the chip
abbrev pub AfterBatchFault : Schedule → BatchFault → Chip → Chip → Type 0
AfterBatchFault schedule Bus old new = IsLost post_fault.Bus old new ⊎ FindsNoSectors schedule old new
AfterBatchFault schedule (NotReady lun) old new = IsLost post_fault.NotReady old new
AfterBatchFault schedule Memory old new = KeptSince old new

-- why a phase on that LUN wasn't run, as why the batch ends
abbrev pub fault_of : DriveFault → ℕ → BatchFault
fault_of drive.Bus lun = Bus
fault_of drive.NotReady lun = NotReady lun
fault_of drive.Memory lun = Memory

-- the reply rests on these items and faults
abbrev pub RestsOn : List Item → List Fault → Reply → Type 0
RestsOn items faults r = (r.basis.accepted ≡ items) × (r.basis.faults ≡ faults)
