-- What a turn did, and why it did nothing earlier.
use Rattle.std.specs.Prelude.{◌≡◌, ◌≢◌, ◌⊎◌, ℕ, ◌<◌, ◌≤◌, ◌^◌, Bool, true, false, [], None, Some, slice_get, slice_set}
use Rattle.onfi_request.specs.declared.reply.Reply.{Reply}
use Rattle.onfi_request.specs.declared.request.Item.{Item}
use Rattle.onfi_core.specs.declared.event.Event.TheVariants as event
use Rattle.onfi_core.specs.declared.outcome.Outcome.{Outcome}
use Rattle.onfi_core.specs.declared.outcome.Outcome.TheVariants as outcome
use Rattle.onfi_core.specs.Steps.{GoesOut, Step, accept_refusal, accepting, held_for, none_left, nothing_to_plan, taken_next, unanswered, unplanned}
use Rattle.onfi_core.specs.View.{IsNext, WantsItem}
use Rattle.onfi_queue.specs.Ends.{SawEmpty, after_accepting}
use Rattle.onfi_reply.specs.Ends.{PosterView, SawFull, after_posting}
use Rattle.onfi_seq.specs.declared.offer.Offer.{Offer}
use Rattle.onfi_seq.specs.declared.offer.Offer.TheVariants as offer
use Rattle.onfi_seq.specs.declared.turn.TurnAt.{TurnAt}
use Rattle.onfi_seq.specs.declared.turn.TurnAt.TheVariants as turn
use Rattle.onfi_seq.specs.Driver.{Passes, StartsNext}
use Rattle.onfi_seq.specs.Sequencer.{Seen, channel_of}

-- ---- why nothing earlier was done
-- nothing goes out to the host: nothing is held for it, or its completion queue was full
abbrev pub IsPostRefused : Seen → ℕ → Type 0
IsPostRefused q host = (held_for host q.0.half ≡ []) ⊎ ((p : PosterView) × (slice_get q.0.posters host ≡ Some p) × SawFull p)

-- nothing goes out to any host below that number
abbrev pub NothingPosts : Seen → ℕ → Type 0
NothingPosts q hosts = (host : ℕ) → host < hosts → IsPostRefused q host

-- nothing goes out, and the channel goes on
pub record IsGoing (q : Seen) : Type 0 where
  pub posts : NothingPosts q 4
  pub going : q.0.half.stopped ≡ None

-- no item is accepted: 64 are unanswered, or none is wanted, since the batch is unplanned, or the submission queue was empty
abbrev pub WhyNoItem : Seen → Type 0
WhyNoItem q = (64 ≤ unanswered q.0.half) ⊎ (¬ WantsItem q.0.setup q.0.half) ⊎ SawEmpty q.0.intake

-- .. and no item is accepted
pub record TakesNothing (q : Seen) : Type 0 where
  pub before : IsGoing q
  pub items : WhyNoItem q

-- .. and no planning was refused since the last phase while a phase is left
pub record MayPlan (q : Seen) : Type 0 where
  pub before : TakesNothing q
  pub again : (q.0.refused ≡ false) ⊎ (none_left q.0.half ≡ true)

-- nothing is planned: nothing is to be planned; or a planning was refused since the last phase, and a phase is left
abbrev pub WhyNoPlan : Seen → Type 0
WhyNoPlan q = (taken_next q.0.setup q.0.half ≡ []) ⊎ ((q.0.refused ≡ true) × (none_left q.0.half ≡ false))

-- nothing goes out, no item is accepted, and nothing is planned
pub record MayRunPhase (q : Seen) : Type 0 where
  pub before : TakesNothing q
  pub plans : WhyNoPlan q

-- .. and nothing is left to run: each accepted item was planned, and all its phases ran
pub record Rests (q : Seen) : Type 0 where
  pub before : TakesNothing q
  pub phases : none_left q.0.half ≡ true
  pub wants : q.0.half.now.wants ≡ []
  pub items : unplanned q.0.setup q.0.half ≡ []

-- ---- time
-- nothing is said of a moment: it is none of the channel; or nothing is to be planned, and the next phase starts just then or none is left
abbrev pub IsUntold : ℕ → Seen → Type 0
IsUntold now q = (2 ^ 62 ≤ now) ⊎ ((nothing_to_plan q.0.setup q.0.half ≡ true) × (StartsNext q.0.half now ⊎ (none_left q.0.half ≡ true)))

-- time passed up to the moment; half and chip alone changed
pub record PassesIn (now : ℕ) (q q' : Seen) : Type 0 where
  pub passes : Passes now q.0.setup (channel_of q) (channel_of q')
  pub after : q' ≡ (record q.0 { half = q'.0.half }, q'.1)

-- .. or nothing was said
abbrev pub LetsPass : ℕ → Seen → Seen → Type 0
LetsPass now q q' = (IsUntold now q × (q' ≡ q)) ⊎ PassesIn now q q'

-- the next phase starts after the moment
pub record WaitsFor (now until : ℕ) (q : Seen) : Type 0 where
  pub may : MayRunPhase q
  pub due : StartsNext q.0.half until
  pub behind : now < until
  pub bounded : until < 2 ^ 63

-- ---- what was done
-- the oldest reply that is held for a host went out, and nothing goes out to the hosts below
pub record Posts (q q' : Seen) : Type 0 where
  pub host : ℕ
  pub known : host < 4
  pub lower : NothingPosts q host
  pub reply : Reply
  pub goes : GoesOut q.0.half q'.0.half host reply
  pub poster : PosterView
  pub there : slice_get q.0.posters host ≡ Some poster
  pub after : q' ≡ (record q.0 { half = q'.0.half; posters = slice_set q.0.posters host (after_posting poster reply) }, q.1)

-- the item that waited longest was accepted: it is its host's next, and in range
pub record Takes (q q' : Seen) : Type 0 where
  pub before : IsGoing q
  pub room : accept_refusal q.0.half ≡ None
  pub wanted : WantsItem q.0.setup q.0.half
  pub item : Item
  pub next : IsNext q.0.setup q.0.half item
  pub after : q' ≡ (record q.0 { half = accepting q.0.setup q.0.half item; intake = after_accepting q.0.intake item }, q.1)

-- a planning came to that, whichever number the channel has; the half alone changed, and what is noted of refusals and of memory
pub record PlansTo (q : Seen) (o : Outcome) (refused short : Bool) (q' : Seen) : Type 0 where
  pub may : MayPlan q
  pub step : (channel : ℕ) → Step q.0.setup (channel_of q) (event.Plan channel) o (channel_of q')
  pub after : q' ≡ (record q.0 { half = q'.0.half; refused = refused; short = short }, q.1)

-- the next phase, which was due by the moment, came to that; half and chip alone changed, and what is noted of refusals and of memory
pub record RunsTo (now start : ℕ) (q : Seen) (o : Outcome) (refused short : Bool) (q' : Seen) : Type 0 where
  pub may : MayRunPhase q
  pub due : StartsNext q.0.half start
  pub by_now : start ≤ now
  pub step : (channel : ℕ) → Step q.0.setup (channel_of q) (event.Bus channel) o (channel_of q')
  pub after : q' ≡ (record q.0 { half = q'.0.half; refused = refused; short = short }, q'.1)

-- a planning came to that answer
abbrev pub Plans : Seen → TurnAt → Seen → Type 0
Plans q (turn.Stopped cause) q' = PlansTo q (outcome.Stopped cause) q.0.refused q.0.short q'
Plans q turn.Planned q' = (finish : ℕ) × PlansTo q (outcome.Planned finish) q.0.refused q.0.short q'
Plans q (turn.Over opened) q' = PlansTo q (outcome.Over opened) true q.0.short q'
Plans q turn.Memory q' = PlansTo q (outcome.Memory None) true true q'
Plans q turn.Posted q' = ⊥
Plans q turn.Accepted q' = ⊥
Plans q turn.Phase q' = ⊥
Plans q (turn.Waits until) q' = ⊥
Plans q turn.PostFull q' = ⊥
Plans q turn.Idle q' = ⊥

-- what a turn does that takes no item in, once time has passed
abbrev pub Goes : ℕ → Seen → TurnAt → Seen → Type 0
Goes now q turn.Posted q' = ⊥
Goes now q (turn.Stopped cause) q' =
    PlansTo q (outcome.Stopped cause) q.0.refused q.0.short q'
    ⊎ ((start : ℕ) × RunsTo now start q (outcome.Stopped cause) q.0.refused q.0.short q')
Goes now q turn.Accepted q' = ⊥
Goes now q turn.Planned q' = (finish : ℕ) × PlansTo q (outcome.Planned finish) q.0.refused q.0.short q'
Goes now q (turn.Over opened) q' = PlansTo q (outcome.Over opened) true q.0.short q'
Goes now q turn.Phase q' = (start : ℕ) × RunsTo now start q (outcome.Phase start) false q.0.short q'
Goes now q turn.Memory q' = PlansTo q (outcome.Memory None) true true q' ⊎ ((start : ℕ) × RunsTo now start q (outcome.Memory None) q.0.refused true q')
Goes now q (turn.Waits until) q' = WaitsFor now until q × (q' ≡ q)
Goes now q turn.PostFull q' = Rests q × (q.0.half.held ≢ []) × (q' ≡ q)
Goes now q turn.Idle q' = Rests q × (q.0.half.held ≡ []) × (q' ≡ q)

-- why nothing is planned, whatever was found as time passed: the plan is that of the bus and the LUNs as they stand, or nothing of it is
-- left; or a planning was refused since the last phase, and a phase is left
abbrev pub PlansLater : Seen → Type 0
PlansLater q = (nothing_to_plan q.0.setup q.0.half ≡ true) ⊎ ((q.0.refused ≡ true) × (none_left q.0.half ≡ false))

-- a LUN that is ready is planned with at once: as time passed no LUN changed, or it was planned, or nothing is planned then
abbrev pub PlansAtOnce : Seen → Seen → TurnAt → Seen → Type 0
PlansAtOnce q mid answer q' = (mid.0.half.now.luns ≡ q.0.half.now.luns) ⊎ Plans mid answer q' ⊎ PlansLater mid

-- time passes, then that is done
abbrev pub PassesThenGoes : ℕ → Seen → TurnAt → Seen → Type 0
PassesThenGoes now q answer q' = (mid : Seen) × LetsPass now q mid × Goes now mid answer q' × PlansAtOnce q mid answer q'

-- what each answer of a turn at the moment says; where nothing is left to do no time passes
abbrev pub Turned : ℕ → Seen → TurnAt → Seen → Type 0
Turned now q turn.Posted q' = Posts q q'
Turned now q (turn.Stopped cause) q' = (NothingPosts q 4 × (q.0.half.stopped ≡ Some cause) × (q' ≡ q)) ⊎ PassesThenGoes now q (turn.Stopped cause) q'
Turned now q turn.Accepted q' = Takes q q'
Turned now q turn.Planned q' = PassesThenGoes now q turn.Planned q'
Turned now q (turn.Over opened) q' = PassesThenGoes now q (turn.Over opened) q'
Turned now q turn.Phase q' = PassesThenGoes now q turn.Phase q'
Turned now q turn.Memory q' = PassesThenGoes now q turn.Memory q'
Turned now q (turn.Waits until) q' = PassesThenGoes now q (turn.Waits until) q'
Turned now q turn.PostFull q' = Goes now q turn.PostFull q'
Turned now q turn.Idle q' = Goes now q turn.Idle q'

-- ---- inside a turn
-- no time passes where nothing is left to do
abbrev pub RestsAtOnce : Seen → Seen → Type 0
RestsAtOnce q mid = none_left mid.0.half ≡ true → taken_next mid.0.setup mid.0.half ≡ [] → mid ≡ q

-- what came of all held replies
abbrev pub OfferedAll : Seen → Offer → Seen → Type 0
OfferedAll q offer.Posted q' = Posts q q'
OfferedAll q offer.Full q' = (q' ≡ q) × NothingPosts q 4 × (q.0.half.held ≢ [])
OfferedAll q offer.Nothing q' = (q' ≡ q) × NothingPosts q 4 × (q.0.half.held ≡ [])

-- what came of those for one host
abbrev pub OfferedTo : Seen → ℕ → Offer → Seen → Type 0
OfferedTo q host offer.Posted q' = NothingPosts q host → Posts q q'
OfferedTo q host offer.Full q' = (q' ≡ q) × IsPostRefused q host × (held_for host q.0.half ≢ [])
OfferedTo q host offer.Nothing q' = (q' ≡ q) × IsPostRefused q host × (held_for host q.0.half ≡ [])

-- what is held for the hosts below that number
abbrev pub HeldBelow : Seen → ℕ → Offer → Type 0
HeldBelow q hosts offer.Posted = ⊥
HeldBelow q hosts offer.Full = q.0.half.held ≢ []
HeldBelow q hosts offer.Nothing = (host : ℕ) → host < hosts → held_for host q.0.half ≡ []

-- how a turn ends where nothing is left to do
abbrev pub IsRest : Seen → TurnAt → Type 0
IsRest q turn.PostFull = q.0.half.held ≢ []
IsRest q turn.Idle = q.0.half.held ≡ []
IsRest q turn.Posted = ⊥
IsRest q (turn.Stopped cause) = ⊥
IsRest q turn.Accepted = ⊥
IsRest q turn.Planned = ⊥
IsRest q (turn.Over opened) = ⊥
IsRest q turn.Phase = ⊥
IsRest q turn.Memory = ⊥
IsRest q (turn.Waits until) = ⊥
