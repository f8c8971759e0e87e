-- What callers see of a half, and what its fields keep.
use Rattle.std.specs.Prelude.{◌≡◌, ℕ, ◌+◌, ◌^◌, ◌<◌, ◌≤◌, List, [], ◌∷◌, ◌++◌, length, take, Option, Some, None, Result, IfOk, IfErr, slice_get}
use Rattle.std.specs.List.{AllByRecursion as Each, filter}
use Rattle.onfi_request.specs.Range.{Fits}
use Rattle.onfi_request.specs.declared.request.Item.{Item}
use Rattle.onfi_request.specs.declared.reply.Reply.{Reply}
use Rattle.onfi_group.specs.Words.{number}
use Rattle.onfi_problem.specs.Problem.{Problem}
use Rattle.onfi_problem.specs.Left.{horizon}
use Rattle.onfi_schedule.specs.Schedule.{Schedule}
use Rattle.onfi_check.specs.Nodes.{HasMoreNodes}
use Rattle.onfi_planner.specs.declared.planned.Planned.{Planned}
use Rattle.onfi_plan.specs.declared.plan.Certificate.{Certificate}
use Rattle.onfi_plan.specs.declared.plan.Certificate.TheVariants as certificate
use Rattle.onfi_plan.specs.declared.plan.Plan.{Plan}
use Rattle.onfi_planner.specs.declared.fault.PlanFault.{PlanFault}
use Rattle.onfi_planner.specs.declared.fault.PlanFault.TheVariants as planner
use Rattle.slab.specs.Slab.{Slab, get, slab_len}
use Rattle.onfi_core.specs.declared.setup.Setup.{Setup}
use Rattle.onfi_core.specs.declared.slot.Slot.{Slot}
use Rattle.onfi_core.specs.declared.lent.Lent.{Lent}
use Rattle.onfi_core.specs.declared.batch.Batch.{Batch}
use Rattle.onfi_core.specs.declared.batch.LastPlan.{LastPlan}
use Rattle.onfi_core.specs.declared.batch.LastPlan.TheVariants.{Tokens, Text}
use Rattle.onfi_core.specs.declared.planning.PlanStop.{PlanStop}
use Rattle.onfi_core.specs.declared.planning.PlanStop.TheVariants.{Clock, Over, Memory}
use Rattle.onfi_core.specs.declared.half.PlanRefusal.{PlanRefusal}
use Rattle.onfi_core.specs.declared.half.PlanRefusal.TheVariants.{Stopped, NothingToPlan, Over as IsOver, Memory as NoMemory}
use Rattle.onfi_core.specs.declared.outcome.Cause.TheVariants as cause
use Rattle.onfi_core.specs.declared.outcome.Outcome.TheVariants as outcome
use Rattle.onfi_core.specs.Steps.{next_problem, plan_refusal, planned_by, Plans, unplanned}
use Rattle.onfi_core.specs.State.{Planning, HalfState, is_from, is_to}
use Rattle.onfi_core.specs.Kept.{IsSound, is_of_place}

-- the state, and the held reply that is on its way out
pub record HalfView : Type 0 where
  pub setup : Setup
  pub state : HalfState
  pub lent : Option Reply

-- a phase accepts, posts and plans nothing, and lends no reply
pub record IsKeptByPhase (old new : HalfView) : Type 0 where
  pub setup : new.setup ≡ old.setup
  pub lent : new.lent ≡ old.lent
  pub accepted : new.state.accepted ≡ old.state.accepted
  pub posted : new.state.posted ≡ old.state.posted
  pub last : new.state.last ≡ old.state.last

-- a problem and its plan, as the planning that they are of
abbrev pub planning_with : Problem → Plan → Planning
planning_with problem plan = record { problem = problem; schedule = plan.schedule; finish = plan.finish; below = plan.below; cert = plan.certificate }

-- what a plan says as it is kept
abbrev pub schedule_in : LastPlan → Schedule
schedule_in (Tokens planned below) = planned.schedule
schedule_in (Text schedule finish below text) = schedule

abbrev pub finish_in : LastPlan → ℕ
finish_in (Tokens planned below) = planned.finish
finish_in (Text schedule finish below text) = finish

abbrev pub below_in : LastPlan → ℕ
below_in (Tokens planned below) = below
below_in (Text schedule finish below text) = below

abbrev pub certificate_in : LastPlan → Certificate
certificate_in (Tokens planned below) = certificate.Tokens planned.cert
certificate_in (Text schedule finish below text) = certificate.Text text

abbrev pub planning_by : Problem → LastPlan → Planning
planning_by problem plan = record { problem = problem; schedule = schedule_in plan; finish = finish_in plan; below = below_in plan; cert = certificate_in plan }

abbrev pub planning_of : Batch → Planning
planning_of batch = planning_by batch.problem.problem batch.plan

-- .. where the plan is plain: nothing ends before its finish, and its tokens show it
abbrev pub plainly_with : Problem → Planned → Planning
plainly_with problem planned = record { problem = problem; schedule = planned.schedule; finish = planned.finish; below = planned.finish; cert = certificate.Tokens planned.cert }

-- an item as the intake gives it: in range, of a host that is there, with that host's next serial
pub record IsNext (s : Setup) (h : HalfState) (x : Item) : Type 0 where
  pub in_range : Fits s.geometry x.request
  pub host : x.host < s.hosts
  pub serial : x.serial ≡ length (filter (is_from x.host) h.accepted)
  pub fits : x.serial < 2 ^ 32

-- an item may be taken in beside what is unplanned while that is less than a batch
abbrev pub WantsItem : Setup → HalfState → Type 0
WantsItem s h = length (unplanned s h) < h.batch

-- a slot has the place
abbrev pub HasSlot : Slab Slot → ℕ → Type 0
HasSlot slots place = (key : ℕ) × (slot : Slot) × (key < slots.capacity) × (get slots key ≡ Some slot) × (slot.place ≡ place)

-- each unanswered item stands in one slot, with its place
pub record AreSlots (slots : Slab Slot) (accepted : List Item) (posted : List Reply) : Type 0 where
  pub reserved : 64 ≤ slots.capacity
  pub total : slab_len slots + length posted ≡ length accepted
  pub few : slab_len slots ≤ 64
  pub items : (key : ℕ) (slot : Slot) → get slots key ≡ Some slot → slice_get accepted slot.place ≡ Some slot.item
  pub kept : (place : ℕ) → place < length accepted → number (is_of_place place) posted ≡ 0 → HasSlot slots place
  pub waits : (key : ℕ) (slot : Slot) → get slots key ≡ Some slot → number (is_of_place slot.place) posted ≡ 0
  pub apart : (key other : ℕ) (slot another : Slot) → get slots key ≡ Some slot → get slots other ≡ Some another → slot.place ≡ another.place → key ≡ other

-- the items are numbered, by at most four hosts
pub record AreNumbered (accepted : List Item) : Type 0 where
  pub hosts : Each (λ x. x.host < 4) accepted
  pub few : (host : ℕ) → length (filter (is_from host) accepted) ≤ 2 ^ 32

-- the first reply to the host stands there
pub record IsOldestAt (host : ℕ) (held : List Reply) (at : ℕ) : Type 0 where
  pub reply : Reply
  pub there : slice_get held at ≡ Some reply
  pub own : reply.host ≡ host
  pub before : filter (is_to host) (take at held) ≡ []

-- the oldest reply that is held for the host
pub record IsOldest (host : ℕ) (held : List Reply) (r : Reply) : Type 0 where
  pub before : List Reply
  pub behind : List Reply
  pub is : held ≡ before ++ r ∷ behind
  pub own : r.host ≡ host
  pub none : filter (is_to host) before ≡ []

-- the replies that are kept are those held, without the one that is lent: it stood there
abbrev pub IsLent : List Reply → List Reply → Option Lent → Option Reply → Type 0
IsLent held kept None lent = (lent ≡ None) × (kept ≡ held)
IsLent held kept (Some at) lent =
    (r : Reply) × (before : List Reply) × (behind : List Reply)
    × (lent ≡ Some r) × (held ≡ before ++ r ∷ behind) × (kept ≡ before ++ behind) × (length before ≡ at.at) × (r.place ≡ at.place) × (filter (is_to r.host) before ≡ [])

pub record AreFields (setup : Setup) (slots : Slab Slot) (came : ℕ) (room : ℕ) (kept : List Reply) (place : Option Lent) (state : HalfState) (lent : Option Reply) : Type 0 where
  pub slots_are : AreSlots slots state.accepted state.posted
  pub count : came ≡ length state.accepted
  pub numbered : AreNumbered state.accepted
  pub room_is : 64 ≤ room
  pub lending : IsLent state.held kept place lent
  pub sound : IsSound setup state

-- why there is no plan of a problem
abbrev pub StopsBecause : Problem → ℕ → PlanStop → Type 0
StopsBecause p limit Clock = 2 ^ 62 ≤ horizon p
StopsBecause p limit (Over opened) = (horizon p < 2 ^ 62) × (opened ≡ limit) × HasMoreNodes p limit
StopsBecause p limit Memory = horizon p < 2 ^ 62

-- why the planner gave no plan, as why there is none
abbrev pub stop_of : PlanFault → PlanStop
stop_of (planner.Over opened) = Over opened
stop_of planner.Memory = Memory

-- why there is no plan, as why a half doesn't plan
abbrev pub refusal_of : PlanStop → PlanRefusal
refusal_of Clock = Stopped cause.Clock
refusal_of (Over opened) = IsOver opened
refusal_of Memory = NoMemory

-- why a half doesn't plan, and what it leaves
abbrev pub PlanRefused : Setup → HalfState → PlanRefusal → HalfState → Type 0
PlanRefused s h (Stopped why) h' =
    (plan_refusal s h ≡ Some (outcome.Stopped why)) × (h' ≡ record h { stopped = Some why })
PlanRefused s h NothingToPlan h' = (plan_refusal s h ≡ Some outcome.NothingToPlan) × (h' ≡ h)
PlanRefused s h (IsOver opened) h' = (plan_refusal s h ≡ None) × (opened ≡ s.limit) × HasMoreNodes (next_problem s h) s.limit × (h' ≡ h)
PlanRefused s h NoMemory h' = (plan_refusal s h ≡ None) × (h' ≡ h)

-- a planning's plan took the old one's place
abbrev pub PlannedAs : HalfView → HalfView → Result ℕ PlanRefusal → Type 0
PlannedAs old new result = IfOk result (λ finish.
    (plan_refusal old.setup old.state ≡ None) × (plan : Planning) × (finish ≡ plan.finish)
    × Plans old.setup old.state plan × (new ≡ record old { state = planned_by old.setup old.state plan }))

-- .. or why it didn't, and what it left
abbrev pub RefusedAs : HalfView → HalfView → Result ℕ PlanRefusal → Type 0
RefusedAs old new result = IfErr result (λ refusal. PlanRefused old.setup old.state refusal new.state × (new ≡ record old { state = new.state }))
