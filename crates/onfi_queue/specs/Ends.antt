-- What clauses see of a host and of the intake.
use Rattle.std.specs.Prelude.{◌≡◌, ℕ, ◌+◌, ◌^◌, ◌<◌, List, [], ◌∷◌, ◌++◌, length, Some}
use Rattle.atomic_table.specs.Seated.{TableId}
use Rattle.crossbeam_queue.specs.Fifo.{Held}
use Rattle.onfi_request.specs.declared.request.Item.{Item}
use Rattle.onfi_request.specs.declared.request.Request.{Request}
use Rattle.onfi_request.specs.Range.{Fits, fault_of}
use Rattle.onfi_queue.specs.declared.opened.Opened.{Opened}
use Rattle.onfi_queue.specs.declared.fault.SubmitFault.{SubmitFault}
use Rattle.onfi_queue.specs.declared.fault.SubmitFault.TheVariants.{Full, Refused, SerialsSpent}
use Rattle.onfi_queue.specs.declared.view.View.TheVariants.{AtHost, AtIntake}
use Rattle.onfi_queue.specs.Items.{IsSplit}
use Rattle.onfi_queue.specs.Rule.{HostSees, IntakeSees}

-- a host: of which queue it is, what that was opened with, the host's number, and what it sent
pub record HostView : Type 0 where
  pub queue : TableId
  pub capacity : ℕ
  pub opened : Opened
  pub number : ℕ
  pub sent : List Item

-- the intake: of which queue it is, what that was opened with, and what was accepted
pub record IntakeView : Type 0 where
  pub queue : TableId
  pub capacity : ℕ
  pub opened : Opened
  pub accepted : List Item

-- the intake's seat: also how many hosts were made, and what those that were taken back had sent
pub record IntakeSeatView : Type 0 where
  pub queue : TableId
  pub capacity : ℕ
  pub opened : Opened
  pub accepted : List Item
  pub made : ℕ
  pub back : List (List Item)

-- ---- opening
-- the intake of a queue as it opens: nothing is accepted
abbrev pub fresh_intake : TableId → Opened → ℕ → IntakeView
fresh_intake queue opened capacity = record { queue = queue; capacity = capacity; opened = opened; accepted = [] }

-- a host of the intake's queue that sent nothing
abbrev pub fresh_host : IntakeView → ℕ → HostView
fresh_host t number = record { queue = t.queue; capacity = t.capacity; opened = t.opened; number = number; sent = [] }

-- the four hosts of the queue, in the order of their numbers
abbrev pub four_hosts : IntakeView → List HostView
four_hosts t = fresh_host t 0 ∷ fresh_host t 1 ∷ fresh_host t 2 ∷ fresh_host t 3 ∷ []

-- ---- sending
-- the item that the host sends with this request
abbrev pub item_of : HostView → Request → Item
item_of host request = record { host = host.number; serial = length host.sent; request = request }

-- the host sent the request after all that it sent before
abbrev pub after_sending : HostView → Request → HostView
after_sending host request = record host { sent = host.sent ++ item_of host request ∷ [] }

-- a full queue goes with what the host sent: after what was accepted of it, what that queue holds of it is what it sent
abbrev pub SawFull : HostView → Type 0
SawFull host = Held host.capacity (HostSees (AtHost host.opened host.number host.sent))

-- when each fault is reported
abbrev pub IsWhyNot : HostView → Request → SubmitFault → Type 0
IsWhyNot host request (Refused fault) = fault_of host.opened.geometry request ≡ Some fault
IsWhyNot host request SerialsSpent = Fits host.opened.geometry request × (length host.sent ≡ 2 ^ 32)
IsWhyNot host request Full = Fits host.opened.geometry request × (length host.sent < 2 ^ 32) × SawFull host

-- ---- accepting
abbrev pub after_accepting : IntakeView → Item → IntakeView
after_accepting t x = record t { accepted = t.accepted ++ x ∷ [] }

-- an empty queue goes with what was accepted
abbrev pub SawEmpty : IntakeView → Type 0
SawEmpty t = Held 0 (IntakeSees (AtIntake t.opened t.accepted 4 []))

-- ---- closing
-- the hosts of a queue in the order of their numbers, from this one on
abbrev pub AreHostsOf : TableId → ℕ → List HostView → Type 0
AreHostsOf queue number [] = Unit {0}
AreHostsOf queue number (host ∷ hosts) = (host.queue ≡ queue) × (host.number ≡ number) × AreHostsOf queue (number + 1) hosts

-- what each of the four hosts sent is what was accepted of it, and then what waits
abbrev pub Settled : IntakeView → List (List Item) → Type 0
Settled t sents = (waiting : List Item) × IsSplit t.opened.geometry 4 t.accepted sents waiting

-- ---- the same at the intake's seat
abbrev pub fresh_seat : TableId → Opened → ℕ → IntakeSeatView
fresh_seat queue opened capacity =
    record { queue = queue; capacity = capacity; opened = opened; accepted = []; made = 0; back = [] }

abbrev pub host_of_seat : IntakeSeatView → ℕ → HostView
host_of_seat s number = record { queue = s.queue; capacity = s.capacity; opened = s.opened; number = number; sent = [] }

abbrev pub with_made : IntakeSeatView → IntakeSeatView
with_made s = record s { made = s.made + 1 }

abbrev pub with_accepted : IntakeSeatView → Item → IntakeSeatView
with_accepted s x = record s { accepted = s.accepted ++ x ∷ [] }

abbrev pub with_returned : IntakeSeatView → List Item → IntakeSeatView
with_returned s sent = record s { back = s.back ++ sent ∷ [] }

abbrev pub SeatSawEmpty : IntakeSeatView → Type 0
SeatSawEmpty s = Held 0 (IntakeSees (AtIntake s.opened s.accepted s.made s.back))

abbrev pub SeatSettled : IntakeSeatView → Type 0
SeatSettled s = (waiting : List Item) × IsSplit s.opened.geometry s.made s.accepted s.back waiting
