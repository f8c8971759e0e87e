-- In which order a batch replies, and which LUN it names where one isn't ready.
use Rattle.std.specs.Prelude.{◌≡◌, ◌≢◌, ℕ, ◌+◌, ◌<◌, ◌≤◌, List, length, Some, slice_get}
use Rattle.std.specs.List.{AllZip}
use Rattle.onfi_timing.specs.declared.operation.Operation.TheVariants.{Read}
use Rattle.onfi_timing.specs.Kinds.{operation_of, sectors_of}
use Rattle.onfi_request.specs.declared.want.Want.{Want}
use Rattle.onfi_request.specs.declared.reply.Reply.{Reply}
use Rattle.onfi_group.specs.Words.{Has, Pairs}
use Rattle.onfi_schedule.specs.Schedule.{Placed, Schedule}
use Rattle.onfi_batch.specs.declared.fault.BatchFault.{BatchFault}
use Rattle.onfi_batch.specs.declared.fault.BatchFault.TheVariants.{Bus, NotReady, Memory}

-- the post of the want starts then: after the starts of all commands of its group come those of the posts, in the order of the members
pub record PostStarts (schedule : Schedule) (w : Want) (start : ℕ) : Type 0 where
  pub group : Placed
  pub planned : Has schedule.groups group
  pub member : ℕ
  pub is_member : slice_get group.members member ≡ Some w
  pub starts : slice_get group.starts (length group.members + member) ≡ Some start

-- the want whose number is the reply's place has its post then
abbrev pub RepliesAt : Schedule → Reply → ℕ → Type 0
RepliesAt schedule r start = (w : Want) × (w.id ≡ r.place) × PostStarts schedule w start

-- the starts of the posts that were replied to, one for each reply, rise
pub record AreInPostOrder (schedule : Schedule) (replies : List Reply) : Type 0 where
  pub starts : List ℕ
  pub posts : AllZip (RepliesAt schedule) replies starts
  pub rise : Pairs (λ a b. a < b) starts

-- the schedule starts the output of some sectors
pub record StartsSectors (schedule : Schedule) : Type 0 where
  pub start : ℕ
  pub want : Want
  pub sectors : 1 ≤ sectors_of want.kind
  pub post : PostStarts schedule want start

-- a LUN that isn't ready is one whose status is asked for then: the post of a program or an erase on it starts
abbrev pub TellsStatus : Schedule → ℕ → BatchFault → Type 0
TellsStatus schedule start Bus = Unit {0}
TellsStatus schedule start (NotReady lun) = (w : Want) × (w.lun ≡ lun) × (operation_of w.kind ≢ Read) × PostStarts schedule w start
TellsStatus schedule start Memory = Unit {0}
