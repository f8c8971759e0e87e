-- The channels that events reach.
use Rattle.std.specs.Prelude.{◌≡◌, ℕ, ◌<◌, ◌≤◌, true, List, [], ◌∷◌, ◌++◌, None, Result, IfOk, IfErr}
use Rattle.onfi_request.specs.declared.request.Item.{Item}
use Rattle.onfi_request.specs.declared.reply.Reply.{Reply}
use Rattle.onfi_die.specs.Order.{AreRightfulIn}
use Rattle.onfi_chip.specs.Chip.{Chip}
use Rattle.onfi_core.specs.declared.event.Event.{Event}
use Rattle.onfi_core.specs.declared.event.Event.TheVariants.{Plan}
use Rattle.onfi_core.specs.declared.half.PlanRefusal.{PlanRefusal}
use Rattle.onfi_core.specs.declared.outcome.Outcome.{Outcome}
use Rattle.onfi_core.specs.declared.setup.Setup.{Setup}
use Rattle.onfi_core.specs.State.{HalfState, ChannelState, Planning, quiet, posted_to}
use Rattle.onfi_core.specs.Steps.{Step, GoesOut, Plans, PlansSuch, accept_refusal, accepting, held_for, none_left, plan_refusal, planned_by, taken_next, unplanned}
use Rattle.onfi_core.specs.Kept.{IsReached, IsSound}
use Rattle.onfi_core.specs.Core.{Doing, DidAll, IsOpened, IsReachedWith, with_batch}
use Rattle.onfi_core.specs.Refusals.{planned_outcome}
use Rattle.onfi_core.specs.View.{IsNext, PlanRefused}

-- the channel was opened, and then this was done to a core that has it alone, and each plan of it is such
pub record Reaches (Such : Planning → Type 0) (s : Setup) (c : ChannelState) : Type 0 where
  pub start : ChannelState
  pub opened : IsOpened s start
  pub doings : List Doing
  pub did : DidAll Such s (start ∷ []) doings (c ∷ [])

-- where one stands the other does
abbrev pub StaysReached : (Planning → Type 0) → Setup → ChannelState → ChannelState → Type 0
StaysReached Such s c c' = (IsReached s c → IsReached s c') × (Reaches Such s c → Reaches Such s c')

-- what events reach keeps what reachable states keep, and its last plan is such
abbrev pub EventsReach : (Planning → Type 0) → Type 0
EventsReach Such = (s : Setup) (c : ChannelState) → Reaches Such s c → IsReachedWith Such s c

-- each step leads from a channel that events reach to one that they reach
abbrev pub StepReaches : (Planning → Type 0) → Type 0
StepReaches Such = (s : Setup) (c : ChannelState) (e : Event) (o : Outcome) (c' : ChannelState) → Reaches Such s c → Step s c e o c' → PlansSuch Such o c' → Reaches Such s c'

-- so does a batch that is set
abbrev pub BatchReached : (Planning → Type 0) → Type 0
BatchReached Such = (s : Setup) (c : ChannelState) (batch : ℕ) → 1 ≤ batch → batch ≤ 8 → StaysReached Such s c (with_batch batch c)

-- an item that is next is submitted and accepted
abbrev pub AcceptingReached : (Planning → Type 0) → Type 0
AcceptingReached Such = (s : Setup) (h : HalfState) (chip : Chip) (x : Item) → accept_refusal h ≡ None → IsNext s h x → StaysReached Such s (quiet h chip) (quiet (accepting s h x) chip)

-- the oldest reply that is held for a host is posted and collected
abbrev pub PostingReached : (Planning → Type 0) → Type 0
PostingReached Such = (s : Setup) (h h' : HalfState) (chip : Chip) (host : ℕ) (r : Reply) → GoesOut h h' host r → StaysReached Such s (quiet h chip) (quiet h' chip)

-- what a half's planning came to is what its channel's does
abbrev pub PlannedStep : Type 0
PlannedStep = (s : Setup) (c : ChannelState) (channel : ℕ) (result : Result ℕ PlanRefusal) (h : HalfState)
    → IfOk result (λ finish. (plan_refusal s c.half ≡ None) × (plan : Planning) × (finish ≡ plan.finish) × Plans s c.half plan × (h ≡ planned_by s c.half plan))
    → IfErr result (λ refusal. PlanRefused s c.half refusal h) → Step s c (Plan channel) (planned_outcome result) (record c { half = h })

-- where no phase is left and nothing is to be planned, no want waits to start and no item is unplanned
abbrev pub IdleIs : Type 0
IdleIs = (s : Setup) (h : HalfState) → IsSound s h → none_left h ≡ true → taken_next s h ≡ [] → (h.now.wants ≡ []) × (unplanned s h ≡ [])

-- where nothing is held for any host of the setup, nothing is held
abbrev pub NothingHeld : Type 0
NothingHeld = (s : Setup) (c : ChannelState) → IsReached s c → ((host : ℕ) → host < s.hosts → held_for host c.half ≡ []) → c.half.held ≡ []

-- what was posted to a host, and then the reply that goes out, is rightful in what that reply rests on
abbrev pub NextBehind : Type 0
NextBehind = (s : Setup) (c : ChannelState) (h : HalfState) (host : ℕ) (r : Reply) → IsReached s c → GoesOut c.half h host r → AreRightfulIn s.geometry r (posted_to host c ++ r ∷ [])
