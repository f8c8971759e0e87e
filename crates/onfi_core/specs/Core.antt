-- Several channels, and lists of events.
use Rattle.std.specs.Prelude.{◌≡◌, ℕ, ◌≤◌, ◌⊎◌, Bool, List, [], ◌∷◌, Option, Some, None, IfSome, slice_get, slice_set}
use Rattle.std.specs.List.{AllByRecursion as Each}
use Rattle.onfi_request.specs.declared.request.Request.{Request}
use Rattle.onfi_request.specs.declared.fault.Fault.{Fault}
use Rattle.onfi_core.specs.declared.setup.Setup.{Setup}
use Rattle.onfi_core.specs.declared.event.Event.{Event}
use Rattle.onfi_core.specs.declared.event.Event.TheVariants.{Submit, Accept, Plan, Bus, Wait, Ready, Post, Collect}
use Rattle.onfi_core.specs.declared.outcome.Outcome.{Outcome}
use Rattle.onfi_core.specs.declared.outcome.Outcome.TheVariants.{NoSuch}
use Rattle.onfi_die.specs.Order.{AreInOrder}
use Rattle.onfi_plan.specs.declared.plan.Certificate.{Certificate}
use Rattle.onfi_core.specs.State.{ChannelState, Planning, posted_to}
use Rattle.onfi_core.specs.Steps.{IsPromised, PlansSuch, Step}
use Rattle.onfi_chip.specs.Chip.{Failures}
use Rattle.onfi_core.specs.Kept.{first, IsReached, KeepsPromise}

abbrev pub channel_of : Event → ℕ
channel_of (Submit host channel r) = channel
channel_of (Accept channel) = channel
channel_of (Plan channel) = channel
channel_of (Bus channel) = channel
channel_of (Wait channel moment) = channel
channel_of (Ready channel lun) = channel
channel_of (Post channel host) = channel
channel_of (Collect channel host) = channel

-- the request that a refused event hands back
abbrev pub request_in : Event → Option Request
request_in (Submit host channel r) = Some r
request_in _ = None

-- an event changes its channel alone, and what it plans is such; of a number that isn't there it is refused
abbrev pub CoreStep : (Planning → Type 0) → Setup → List ChannelState → Event → Outcome → List ChannelState → Type 0
CoreStep Such s cs e o cs' =
    ((slice_get cs (channel_of e) ≡ None) × (o ≡ NoSuch (request_in e)) × (cs' ≡ cs))
    ⊎ ((c : ChannelState) × (c' : ChannelState) × (slice_get cs (channel_of e) ≡ Some c) × Step s c e o c' × PlansSuch Such o c' × (cs' ≡ slice_set cs (channel_of e) c'))

-- these events may give these outcomes, one step after another, and each plan of them is such
abbrev pub CoreRun : (Planning → Type 0) → Setup → List ChannelState → List Event → List Outcome → List ChannelState → Type 0
CoreRun Such s cs [] [] cs' = cs' ≡ cs
CoreRun Such s cs (e ∷ es) (o ∷ os) cs' = (mid : List ChannelState) × CoreStep Such s cs e o mid × CoreRun Such s mid es os cs'
CoreRun Such s cs [] (o ∷ os) cs' = ⊥
CoreRun Such s cs (e ∷ es) [] cs' = ⊥

abbrev pub with_batch : ℕ → ChannelState → ChannelState
with_batch batch c = record c { half = record c.half { batch = batch } }

-- what is done to a core: an event happens, or the batch of a channel's later plannings is set
pub data Doing : Type 0 where
  Happens : Event → Outcome → Doing
  SetsBatch : (channel : ℕ) → (batch : ℕ) → Doing

-- it was done, and what it planned is such
abbrev pub Did : (Planning → Type 0) → Setup → List ChannelState → Doing → List ChannelState → Type 0
Did Such s cs (Happens e o) cs' = CoreStep Such s cs e o cs'
Did Such s cs (SetsBatch n batch) cs' = (1 ≤ batch) × (batch ≤ 8) × (c : ChannelState) × (slice_get cs n ≡ Some c) × (cs' ≡ slice_set cs n (with_batch batch c))

abbrev pub DidAll : (Planning → Type 0) → Setup → List ChannelState → List Doing → List ChannelState → Type 0
DidAll Such s cs [] cs' = cs' ≡ cs
DidAll Such s cs (d ∷ ds) cs' = (mid : List ChannelState) × Did Such s cs d mid × DidAll Such s mid ds cs'

-- a channel as it was opened, with some chip of the setup
abbrev pub IsOpened : Setup → ChannelState → Type 0
IsOpened s c = (faults : List Fault) × (failures : Failures) × (c ≡ first s faults failures)

-- whatever is done to an opened core whose planner promises that of each plan, each channel keeps the promise; so it does after each
-- planning, since what was done until then was done to an opened core too
abbrev pub Headline : Bool → (Certificate → Type 0) → Type 0
Headline exact certifies = (s : Setup) (cs cs' : List ChannelState) (ds : List Doing)
    → Each (IsOpened s) cs → DidAll (IsPromised exact certifies) s cs ds cs' → Each (KeepsPromise exact certifies s) cs'

-- a channel as it was opened is one that is reached
abbrev pub OpenedIsReached : Type 0
OpenedIsReached = (s : Setup) (faults : List Fault) (failures : Failures) → IsReached s (first s faults failures)

-- each step leads from a channel that is reached to one that is
abbrev pub StepKeeps : Type 0
StepKeeps = (s : Setup) (c : ChannelState) (e : Event) (o : Outcome) (c' : ChannelState) → IsReached s c → Step s c e o c' → IsReached s c'

-- what is reached keeps the promise, where the last plan is as its planner promises
abbrev pub ReachedKeeps : Bool → (Certificate → Type 0) → Type 0
ReachedKeeps exact certifies = (s : Setup) (c : ChannelState)
    → IsReached s c → IfSome c.half.last (IsPromised exact certifies) → KeepsPromise exact certifies s c

-- what is posted to a host is in order of making: each reply is rightful in what it rests on, and that grows
abbrev pub PostedInOrder : Type 0
PostedInOrder = (s : Setup) (c : ChannelState) → IsReached s c → (host : ℕ) → AreInOrder s.geometry c.chip.faults (posted_to host c)

-- a channel keeps what reachable states keep, and its last plan is such
abbrev pub IsReachedWith : (Planning → Type 0) → Setup → ChannelState → Type 0
IsReachedWith Such s c = IsReached s c × IfSome c.half.last Such

-- these events may give these outcomes: then each channel keeps the promise
abbrev pub RunKeeps : Bool → (Certificate → Type 0) → Type 0
RunKeeps exact certifies = (s : Setup) (cs cs' : List ChannelState) (events : List Event) (outcomes : List Outcome)
    → Each (IsReachedWith (IsPromised exact certifies) s) cs → CoreRun (IsPromised exact certifies) s cs events outcomes cs'
    → Each (IsReachedWith (IsPromised exact certifies) s) cs' × Each (KeepsPromise exact certifies s) cs'
