-- What is left of a batch's plan, and what a phase makes of it.
use Rattle.std.specs.Prelude.{◌≡◌, ℕ, ◌+◌, ◌<◌, List, [], length, drop, replicate, false, None, Some, slice_get}
use Rattle.std.specs.List.{AllByRecursion as Each, AllZip}
use Rattle.onfi_request.specs.declared.want.Want.{Want}
use Rattle.onfi_request.specs.declared.request.Item.{Item}
use Rattle.onfi_request.specs.declared.reply.Reply.{Reply}
use Rattle.onfi_chip.specs.Calls.{IsLost}
use Rattle.onfi_chip.specs.Chip.{Chip}
use Rattle.onfi_chip.specs.declared.fault.PostFault.TheVariants as post_fault
use Rattle.onfi_group.specs.Words.{Has, Pairs, total}
use Rattle.onfi_problem.specs.declared.lun_state.LunState.TheVariants.{Free, Running}
use Rattle.onfi_problem.specs.Problem.{Problem}
use Rattle.onfi_schedule.specs.Schedule.{Placed, Schedule, rest_of}
use Rattle.onfi_flight.specs.declared.due.Due.{Due}
use Rattle.onfi_core.specs.declared.outcome.Cause.TheVariants as cause
use Rattle.onfi_core.specs.declared.setup.Setup.{Setup}
use Rattle.onfi_core.specs.Dues.{after_due}
use Rattle.onfi_core.specs.Kept.{IsHalf, ChipAgrees}
use Rattle.onfi_core.specs.State.{HalfState, device_for, quiet}
use Rattle.onfi_core.specs.Steps.{RunsOnChip, IsCauseOf, IsLostAt}
use Rattle.onfi_batch.specs.declared.fault.BatchFault.{BatchFault}
use Rattle.onfi_batch.specs.declared.fault.BatchFault.TheVariants as fault
use Rattle.onfi_batch.specs.declared.course.Course.{Course}
use Rattle.onfi_lun.specs.declared.lanes.any_lun.AnyLun.{AnyLun}
use Rattle.onfi_lun.specs.declared.target.Target.{Target}
use Rattle.onfi_batch.specs.Batch.{KeptSince, RestsOn}
use Rattle.onfi_lun.specs.Lanes.{LanesAgree}
use Rattle.onfi_batch.specs.Order.{RepliesAt}

-- a half that planned all items at once, with what is left of that plan, and holds the replies
abbrev pub half_of : List Item → Problem → Schedule → List Reply → HalfState
half_of accepted now left replies = record {
  accepted = accepted;
  planned = length accepted;
  batch = 8;
  now = now;
  left = left;
  books = None;
  outdated = false;
  last = None;
  held = replies;
  posted = [];
  stopped = None;
}

abbrev pub state_of : Course → HalfState
state_of c = half_of c.items.items c.flight.now c.flight.left c.replies.items

-- nothing of the schedule is done, and that many LUNs are free
abbrev pub opening : ℕ → Problem → Schedule → List Item → HalfState
opening luns p s items = half_of items (record p { luns = replicate luns (Free 0) }) (record { rest = replicate luns []; groups = s.groups }) []

-- what is left of the plan, the chip and its LUNs in their phases agree
pub record IsDriven (target : Target) (course : Course) (lanes : List AnyLun) (chip : Chip) : Type 0 where
  pub setup : Setup
  pub geometry : setup.geometry ≡ target.geometry
  pub timing : setup.timing ≡ target.timing
  pub half : IsHalf setup (device_for setup chip) (state_of course)
  pub agrees : ChipAgrees setup (state_of course) chip
  pub lanes_agree : LanesAgree chip lanes

-- the due phase ran on the chip, and the reply that it made is held
abbrev pub GoesOn : HalfState → Chip → Due → HalfState → Chip → Type 0
GoesOn h chip due h' chip' = (replies : List Reply) × RunsOnChip h.accepted due.group due.phase due.start chip chip' replies × (h' ≡ after_due h due replies)

-- only the status of a program or an erase says that its LUN isn't ready, where it comes next
abbrev pub IsFaultOf : HalfState → BatchFault → Type 0
IsFaultOf h fault.Bus = Unit {0}
IsFaultOf h (fault.NotReady lun) = IsCauseOf h (cause.NotReady lun)
IsFaultOf h fault.Memory = Unit {0}

-- what a fault at the next phase leaves of the chip
abbrev pub AfterPhaseFault : HalfState → BatchFault → Chip → Chip → Type 0
AfterPhaseFault h fault.Bus old new = IsLostAt (quiet h old) post_fault.Bus new
AfterPhaseFault h (fault.NotReady lun) old new = IsLost post_fault.NotReady old new
AfterPhaseFault h fault.Memory old new = KeptSince old new

-- how many phases are left
abbrev pub steps_left : Schedule → ℕ
steps_left s = total (λ starts. length starts) s.rest + total (λ (g : Placed). length g.starts) s.groups

-- what runs and what waits are groups of the schedule; the replies so far are in order of post start, and the bus is free after them
pub record IsInOrder (schedule : Schedule) (h : HalfState) : Type 0 where
  pub waiting : Each (Has schedule.groups) h.left.groups
  pub running : (lun : ℕ) (group : List Want) (next ready : ℕ) → slice_get h.now.luns lun ≡ Some (Running group next ready)
      → (starts : List ℕ) × Has schedule.groups (record { members = group; starts = starts }) × (rest_of h.left lun ≡ Some (drop next starts))
  pub starts : List ℕ
  pub posts : AllZip (RepliesAt schedule) h.held starts
  pub rise : Pairs (λ a b. a < b) starts
  pub behind : Each (λ start. start < h.now.bus_free) starts

-- a batch on course, since its chip was as it opened
pub record IsOnCourse (target : Target) (schedule : Schedule) (items : List Item) (first : Chip) (course : Course)
    (lanes : List AnyLun) (chip : Chip) : Type 0 where
  pub driven : IsDriven target course lanes chip
  pub items_are : course.items.items ≡ items
  pub order : IsInOrder schedule (state_of course)
  pub basis : Each (RestsOn items first.faults) course.replies.items
  pub kept : KeptSince first chip
