-- What an event does to a channel.
use Rattle.std.specs.Prelude.{◌≡◌, ◌≢◌, ℕ, ◌+◌, ◌-◌, ◌^◌, ◌<◌, ◌≤◌, ◌⊎◌, ◌==◌, max, not, nat_le, nat_lt, if◌then◌else◌, Bool, true, false, IsTrue, List, [], ◌∷◌, ◌++◌, length, take, drop, Option, Some, None, IfSome, Vec, slice_get}
use Rattle.std.specs.Global.{Global}
use Rattle.std.specs.List.{filter}
use Rattle.onfi_timing.specs.declared.operation.Operation.TheVariants.{Read}
use Rattle.onfi_timing.specs.Kinds.{operation_of, sectors_of}
use Rattle.onfi_request.specs.declared.want.Want.{Want}
use Rattle.onfi_request.specs.declared.answer.Answer.{Answer}
use Rattle.onfi_request.specs.declared.request.Request.{Request}
use Rattle.onfi_request.specs.declared.request.Item.{Item}
use Rattle.onfi_request.specs.declared.reply.Reply.{Reply}
use Rattle.onfi_request.specs.declared.fault.Fault.{Fault}
use Rattle.onfi_request.specs.declared.checking.RequestFault.{RequestFault}
use Rattle.onfi_group.specs.Group.{lun_of}
use Rattle.onfi_problem.specs.declared.lun_state.LunState.{LunState}
use Rattle.onfi_problem.specs.declared.lun_state.LunState.TheVariants.{Free, Running}
use Rattle.onfi_problem.specs.Problem.{Problem}
use Rattle.onfi_problem.specs.Moves.{Move, Next, Start, free_from, placed, move_lun}
use Rattle.onfi_problem.specs.Left.{horizon}
use Rattle.onfi_schedule.specs.Schedule.{Schedule, Legal, phases, finish, Optimal}
use Rattle.onfi_schedule.specs.Laws.{ComesNext}
use Rattle.onfi_flight.specs.Flight as flight
use Rattle.onfi_flight.specs.Flight.{Flight, IsPhase}
use Rattle.onfi_cert.specs.declared.token.Token.{Token}
use Rattle.onfi_check.specs.Tree.{AcceptsTokens}
use Rattle.onfi_check.specs.Nodes.{HasMoreNodes}
use Rattle.onfi_known_check.specs.Laws.{NoneBefore}
use Rattle.onfi_plan.specs.Certificate.{IsPlain, ShowsBelow}
use Rattle.onfi_plan.specs.declared.plan.Certificate.{Certificate}
use Rattle.onfi_plan.specs.declared.plan.Certificate.TheVariants.{Tokens}
use Rattle.onfi_steady.specs.declared.next.NextPhase.{NextPhase}
use Rattle.onfi_steady.specs.Dispatcher.{begun_books}
use Rattle.onfi_steady.specs.Next.{IsNextPhase, move_of_phase}
use Rattle.onfi_steady.specs.Waiting as steady
use Rattle.onfi_steady.specs.Waiting.{Books}
use Rattle.onfi_chip.specs.declared.fault.PostFault.{PostFault}
use Rattle.onfi_chip.specs.declared.fault.PostFault.TheVariants as post_fault
use Rattle.onfi_chip.specs.declared.post.Post.{Post}
use Rattle.onfi_chip.specs.Chip.{Chip, commanded, found_ready, launched, posted}
use Rattle.onfi_chip.specs.Chip.Lun.{Posting}
use Rattle.onfi_chip.specs.Calls.{HasDone, HasRisen}
use Rattle.onfi_core.specs.declared.setup.Setup.{Setup}
use Rattle.onfi_core.specs.declared.event.Event.{Event}
use Rattle.onfi_core.specs.declared.event.Event.TheVariants.{Submit, Accept, Plan, Bus, Wait, Ready, Post as PostTo, Collect}
use Rattle.onfi_core.specs.declared.outcome.Cause.{Cause}
use Rattle.onfi_core.specs.declared.outcome.Cause.TheVariants.{Bus as BusFailed, NotReady, Clock}
use Rattle.onfi_core.specs.declared.outcome.Outcome.{Outcome}
use Rattle.onfi_core.specs.declared.outcome.Outcome.TheVariants.{Submitted, Accepted, Planned, Phase, Waited, ReadyFrom, Posted, Collected, SubmitFull, NothingToAccept, NoPlan, PostFull, NothingToCollect, Stopped, Over, Memory, Refused, SerialsSpent, WindowFull, NothingToPlan, NothingToPost, TooLate, NotInArray, StillBusy, NoSuch}
use Rattle.onfi_core.specs.State.{Planning, HalfState, ChannelState, flight_of, sent_by, posted_to, collected_by, is_to, want_of, wants_from, item_at, request_of}
pub use Rattle.onfi_request.specs.Range.{fault_of}

-- What a planning takes

-- the items that no plan has taken, as wants
abbrev pub unplanned : Setup → HalfState → List Want
unplanned s h = wants_from s.geometry h.planned (drop h.planned h.accepted)

abbrev pub is_empty : {A : Type 0} → List A → Bool
is_empty [] = true
is_empty (x ∷ xs) = false

-- nothing runs on any of these
abbrev pub none_runs : List LunState → Bool
none_runs [] = true
none_runs (Free since ∷ luns) = none_runs luns
none_runs (Running group next ready ∷ luns) = false

abbrev pub none_left_by : Option Books → Problem → Schedule → Bool
none_left_by None now left = is_empty (phases now left)
none_left_by (Some books) now left = if is_empty now.wants then none_runs now.luns else false

-- no phase is left: of the plan; by the next phase nothing waits and nothing runs
abbrev pub none_left : HalfState → Bool
none_left h = none_left_by h.books h.now h.left

-- the first of the unplanned that find a place beside the wants not started, up to the batch in all
abbrev pub taken_next : Setup → HalfState → List Want
taken_next s h = take (h.batch - length h.now.wants) (unplanned s h)

-- the wants not started, then those; the bus and the LUNs as they stand
abbrev pub next_problem : Setup → HalfState → Problem
next_problem s h = record h.now { wants = h.now.wants ++ taken_next s h }

-- a legal schedule of the problem and its finish, a number no later before which no legal schedule ends, and a certificate accepted for that
pub record IsPlanned (plan : Planning) : Type 0 where
  pub legal : Legal plan.problem plan.schedule
  pub finish : plan.finish ≡ finish plan.problem plan.schedule
  pub below : plan.below ≤ plan.finish
  pub none_before : NoneBefore plan.problem plan.below
  pub shown : ShowsBelow plan.cert plan.problem.wants plan.problem plan.below

-- an optimal schedule of the problem, its finish, and a certificate accepted for that
pub record IsBest (plan : Planning) : Type 0 where
  pub optimal : Optimal plan.problem plan.schedule
  pub finish : plan.finish ≡ finish plan.problem plan.schedule
  pub shown : ShowsBelow plan.cert plan.problem.wants plan.problem plan.finish

-- what its planner promises beside: where it is exact nothing ends sooner, so that the plan is the best and is shown to be; and the
-- certificate is one that it gives
pub record IsPromised (exact : Bool) (certifies : Certificate → Type 0) (plan : Planning) : Type 0 where
  pub exactly : IsTrue exact → plan.below ≡ plan.finish
  pub best : IsTrue exact → IsBest plan
  pub kind : certifies plan.cert

-- whatever the plan
abbrev pub IsAny : Planning → Type 0
IsAny plan = Unit {0}

-- where this came of a planning that was accepted, the channel's last plan is such
abbrev pub PlansSuch : (Planning → Type 0) → Outcome → ChannelState → Type 0
PlansSuch Such o c = (finish : ℕ) → o ≡ Planned finish → IfSome c.half.last Such

-- a plan that is plain: nothing ends before its finish, and tokens show it
abbrev pub IsPlainPlan : Planning → Type 0
IsPlainPlan plan = IsPromised true IsPlain plan

-- an optimal schedule of the problem, its finish, and a token list accepted for it
pub record IsPlainlyPlanned (plan : Planning) : Type 0 where
  pub optimal : Optimal plan.problem plan.schedule
  pub finish : plan.finish ≡ finish plan.problem plan.schedule
  pub tokens : Vec Token Global
  pub cert : plan.cert ≡ Tokens tokens
  pub accepted : AcceptsTokens tokens.items plan.problem plan.finish

-- a plan before whose finish nothing ends is the best
abbrev pub FinishIsBest : Type 0
FinishIsBest = (plan : Planning) → IsPlanned plan → plan.below ≡ plan.finish → IsBest plan

-- what an exact planner plans that gives tokens is shown by tokens
abbrev pub PlainIsPlain : Type 0
PlainIsPlain = (plan : Planning) → IsPlanned plan → IsPromised true IsPlain plan → IsPlainlyPlanned plan

-- the plan takes the old one's place
abbrev pub planned_by : Setup → HalfState → Planning → HalfState
planned_by s h plan = record h { planned = h.planned + length (taken_next s h); now = plan.problem; left = plan.schedule; outdated = false; last = Some plan }

pub record Plans (s : Setup) (h : HalfState) (plan : Planning) : Type 0 where
  pub problem : plan.problem ≡ next_problem s h
  pub planned : IsPlanned plan

-- What a phase does

-- a command after which more come
pub record Commands (accepted : List Item) (group : List Want) (phase start : ℕ) (chip chip' : Chip) : Type 0 where
  pub member : Want
  pub is : slice_get group phase ≡ Some member
  pub more : phase + 1 < length group
  pub done : HasDone (commanded chip (request_of accepted member) start) chip'

-- the last command: the group's requests happen
pub record Launches (accepted : List Item) (group : List Want) (phase start : ℕ) (chip chip' : Chip) : Type 0 where
  pub member : Want
  pub is : slice_get group phase ≡ Some member
  pub last : phase + 1 ≡ length group
  pub done : HasDone (launched chip (request_of accepted member) start) chip'

-- the reply to a want; it rests on what is accepted now and on the chip's faults
abbrev pub reply_to : List Item → List Fault → Want → Answer → Reply
reply_to accepted faults w answer = record {
  host = (item_at accepted w.id).host;
  serial = (item_at accepted w.id).serial;
  place = w.id;
  answer = answer;
  basis = record { accepted = accepted; faults = faults };
}

-- a post: the chip gives its LUN's next answer
pub record Posts (group : List Want) (phase start : ℕ) (chip chip' : Chip) (member : Want) (answer : Answer) : Type 0 where
  pub is : slice_get group (phase - length group) ≡ Some member
  pub behind : length group ≤ phase
  pub post : Post
  pub others : List Post
  pub since : ℕ
  pub given : slice_get chip.luns (lun_of group) ≡ Some (Posting (post ∷ others) since)
  pub told : answer ≡ post.answer
  pub done : HasDone (posted chip post others start) chip'

-- what the phase does on the chip, and the reply that it makes
abbrev pub RunsOnChip : List Item → List Want → ℕ → ℕ → Chip → Chip → List Reply → Type 0
RunsOnChip accepted group phase start chip chip' replies =
    ((Commands accepted group phase start chip chip' ⊎ Launches accepted group phase start chip chip') × (replies ≡ []))
    ⊎ ((member : Want) × (answer : Answer) × Posts group phase start chip chip' member answer × (replies ≡ reply_to accepted chip.faults member answer ∷ []))

-- the move and the start of the phase that is next by the books
pub record GoesNext (books : Books) (p : Problem) (move : Move) (start : ℕ) : Type 0 where
  pub phase : NextPhase
  pub next : IsNextPhase books p phase
  pub move_is : move ≡ move_of_phase phase
  pub start_is : start ≡ phase.start

abbrev pub ComesBy : Option Books → Problem → Schedule → Move → ℕ → Schedule → Type 0
ComesBy None now left move start left' = ComesNext now left move start left'
ComesBy (Some books) now left move start left' = GoesNext books now move start × (left' ≡ left)

-- the phase that comes next, and what it leaves of the plan: the undone phase of least start, or what is next by the books
abbrev pub Comes : HalfState → Move → ℕ → Schedule → Type 0
Comes h move start left = ComesBy h.books h.now h.left move start left

-- what waits once the move's phase ran
abbrev pub moved : Books → Move → Books
moved books (Next lun) = books
moved books (Start members) = begun_books books (lun_of members) members

abbrev pub books_after : Option Books → Move → Option Books
books_after None move = None
books_after (Some books) move = Some (moved books move)

-- the bus or the LUN isn't free before 2^62 ns
abbrev pub is_late_on : Problem → ℕ → Bool
is_late_on p lun = nat_le (2 ^ 62) (max p.bus_free (free_from (slice_get p.luns lun)))

-- where nothing is planned a phase stops the channel that leaves its bus or its LUN busy until then
abbrev pub stopped_after : Option Books → Problem → ℕ → Option Cause → Option Cause
stopped_after None p lun stopped = stopped
stopped_after (Some books) p lun stopped = if is_late_on p lun then Some Clock else stopped

-- the phase is done, and its reply is held
abbrev pub half_after_phase : HalfState → Move → ℕ → Schedule → List Reply → HalfState
half_after_phase h move start left replies = record h {
  now = placed h.now move start;
  left = left;
  books = books_after h.books move;
  held = h.held ++ replies;
  stopped = stopped_after h.books (placed h.now move start) (move_lun move) h.stopped;
}

-- the phase that comes next happens at its start
pub record Runs (c c' : ChannelState) (start : ℕ) : Type 0 where
  pub move : Move
  pub left : Schedule
  pub next : Comes c.half move start left
  pub group : List Want
  pub phase : ℕ
  pub is : IsPhase c.half.now move group phase
  pub chip : Chip
  pub replies : List Reply
  pub on_chip : RunsOnChip c.half.accepted group phase start c.chip chip replies
  pub after : c' ≡ record c { half = half_after_phase c.half move start left replies; chip = chip }

-- Refusals that the state decides, the first that holds

abbrev pub or_else : Option Outcome → Option Outcome → Option Outcome
or_else (Some o) other = Some o
or_else None other = other

abbrev pub refused_where : Bool → Outcome → Option Outcome
refused_where true o = Some o
refused_where false o = None

abbrev pub if_stopped : Option Cause → Option Outcome
if_stopped None = None
if_stopped (Some cause) = Some (Stopped cause)

abbrev pub if_faulty : Option RequestFault → Request → Option Outcome
if_faulty None r = None
if_faulty (Some fault) r = Some (Refused fault r)

-- accepted, and no reply posted
abbrev pub unanswered : HalfState → ℕ
unanswered h = length h.accepted - length h.posted

abbrev pub held_for : ℕ → HalfState → List Reply
held_for host h = filter (is_to host) h.held

abbrev pub not_collected : ℕ → ChannelState → ℕ
not_collected host c = length (posted_to host c) - length (collected_by host c)

-- an item is not accepted, whatever waits
abbrev pub accept_refusal : HalfState → Option Outcome
accept_refusal h =
    or_else (if_stopped h.stopped)
    (refused_where (nat_le 64 (unanswered h)) WindowFull)

-- the plan might end at 2^62 or later
abbrev pub is_late : Setup → HalfState → Bool
is_late s h = nat_le (2 ^ 62) (horizon (next_problem s h))

-- the plan is that of the bus and the LUNs as they stand, or nothing of it is left
abbrev pub is_current : HalfState → Bool
is_current h = if h.outdated then none_left h else true

-- no item is taken, and the plan is current
abbrev pub nothing_to_plan : Setup → HalfState → Bool
nothing_to_plan s h = if is_empty (taken_next s h) then is_current h else false

abbrev pub plan_refusal : Setup → HalfState → Option Outcome
plan_refusal s h =
    or_else (if_stopped h.stopped)
    (or_else (refused_where (nothing_to_plan s h) NothingToPlan)
    (refused_where (is_late s h) (Stopped Clock)))

abbrev pub bus_refusal : HalfState → Option Outcome
bus_refusal h =
    or_else (if_stopped h.stopped)
    (refused_where (none_left h) NoPlan)

-- the latest that a wait brings about: the moment, or the last start of what would be left of the plan
abbrev pub latest_by : Option Books → ℕ → Flight → ℕ
latest_by None moment f = flight.latest_waited moment f
latest_by (Some books) moment f = moment

abbrev pub wait_refusal : ℕ → HalfState → Option Outcome
wait_refusal moment h =
    or_else (if_stopped h.stopped)
    (refused_where (nat_le (2 ^ 62) (latest_by h.books moment (flight_of h))) TooLate)

-- the array of the LUN works: its group's next phase is the first post
abbrev pub is_in_array : Option LunState → Bool
is_in_array (Some (Running group next ready)) = next == length group
is_in_array (Some (Free since)) = false
is_in_array None = false

abbrev pub ready_refusal : ℕ → HalfState → Option Outcome
ready_refusal lun h =
    or_else (refused_where (nat_le (length h.now.luns) lun) (NoSuch None))
    (or_else (if_stopped h.stopped)
    (refused_where (not (is_in_array (slice_get h.now.luns lun))) NotInArray))

abbrev pub refusal : Setup → ChannelState → Event → Option Outcome
refusal s c (Submit host channel r) =
    or_else (refused_where (nat_le s.hosts host) (NoSuch (Some r)))
    (or_else (if_faulty (fault_of s.geometry r) r)
    (or_else (refused_where (nat_le (2 ^ 32) (length (sent_by host c))) (SerialsSpent r))
    (refused_where (nat_le s.submit_cap (length c.waiting)) (SubmitFull r))))
refusal s c (Accept channel) = or_else (accept_refusal c.half) (refused_where (is_empty c.waiting) NothingToAccept)
refusal s c (Plan channel) = plan_refusal s c.half
refusal s c (Bus channel) = bus_refusal c.half
refusal s c (Wait channel moment) = wait_refusal moment c.half
refusal s c (Ready channel lun) = ready_refusal lun c.half
refusal s c (PostTo channel host) =
    or_else (refused_where (nat_le s.hosts host) (NoSuch None))
    (or_else (refused_where (is_empty (held_for host c.half)) NothingToPost)
    (refused_where (nat_le s.post_cap (not_collected host c)) PostFull))
refusal s c (Collect channel host) =
    or_else (refused_where (nat_le s.hosts host) (NoSuch None))
    (refused_where (nat_le (length (posted_to host c)) (length (collected_by host c))) NothingToCollect)

abbrev pub stopped_by : Cause → ChannelState → ChannelState
stopped_by cause c = record c { half = record c.half { stopped = Some cause } }

-- a refusal changes nothing, save that a stop cause stays
abbrev pub after_refusal : Outcome → ChannelState → ChannelState
after_refusal (Stopped cause) c = stopped_by cause c
after_refusal _ c = c

-- What an event does that is not so refused

-- memory was refused: nothing changed
abbrev pub GaveUp : ChannelState → Outcome → ChannelState → Type 0
GaveUp c o c' = (o ≡ Memory None) × (c' ≡ c)

-- the host's next item goes to the end of what it sent and of what waits
abbrev pub submitted : ChannelState → ℕ → Request → ChannelState
submitted c host r =
    let x : Item = record { host = host; serial = length (sent_by host c); request = r } in
    record c { sent = c.sent ++ x ∷ []; waiting = c.waiting ++ x ∷ [] }

-- by the next phase an item that is accepted waits at once
abbrev pub planned_with : Option Books → ℕ → ℕ
planned_with None planned = planned
planned_with (Some books) planned = planned + 1

abbrev pub wants_with : Option Books → Want → List Want → List Want
wants_with None w wants = wants
wants_with (Some books) w wants = wants ++ w ∷ []

abbrev pub books_with : Option Books → Want → Option Books
books_with None w = None
books_with (Some books) w = Some (steady.accepted books w)

-- one item more is accepted
abbrev pub accepting : Setup → HalfState → Item → HalfState
accepting s h x = record h {
  accepted = h.accepted ++ x ∷ [];
  planned = planned_with h.books h.planned;
  now = record h.now { wants = wants_with h.books (want_of s.geometry (length h.accepted) x) h.now.wants };
  books = books_with h.books (want_of s.geometry (length h.accepted) x);
}

-- the front of what waits goes to the end of what is accepted
abbrev pub Accepts : Setup → ChannelState → ChannelState → Type 0
Accepts s c c' = (x : Item) × (behind : List Item) × (c.waiting ≡ x ∷ behind) × (c' ≡ record c { half = accepting s c.half x; waiting = behind })

-- a plan is outdated once the bus isn't free before that moment; where nothing is planned none is
abbrev pub outdated_by : Option Books → Bool → ℕ → ℕ → Bool
outdated_by None outdated bus_free moment = if outdated then true else nat_lt bus_free moment
outdated_by (Some books) outdated bus_free moment = outdated

abbrev pub left_waited : Option Books → ℕ → Flight → Schedule
left_waited None moment f = (flight.waited moment f).left
left_waited (Some books) moment f = f.left

-- the bus was idle until the moment, and what is left of the plan starts no sooner; a later bus makes the plan outdated
abbrev pub waited : ℕ → HalfState → HalfState
waited moment h = record h {
  now = record h.now { bus_free = max h.now.bus_free moment };
  left = left_waited h.books moment (flight_of h);
  outdated = outdated_by h.books h.outdated h.now.bus_free moment;
}

-- from when on a LUN may go on that is ready now
abbrev pub ready_of : ℕ → HalfState → ℕ
ready_of lun h = flight.ready_of lun h.now.bus_free (flight_of h)

-- the LUN is ready as the bus is free; one that is ready sooner makes the plan outdated
abbrev pub readied : ℕ → HalfState → HalfState
readied lun h = record h {
  now = record h.now { luns = flight.luns_ready_by h.now.bus_free lun (slice_get h.now.luns lun) h.now.luns };
  outdated = outdated_by h.books h.outdated h.now.bus_free (free_from (slice_get h.now.luns lun));
}

-- the chip says that the LUN is ready, or that it isn't: then nothing changes
abbrev pub FindsReady : ℕ → ChannelState → Outcome → ChannelState → Type 0
FindsReady lun c o c' =
    ((o ≡ ReadyFrom (ready_of lun c.half)) × (c' ≡ record c { half = readied lun c.half; chip = found_ready c.chip lun c.half.now.bus_free }))
    ⊎ ((o ≡ StillBusy) × (c' ≡ c))

-- the move's phase is the status of a program or an erase
pub record AsksStatus (p : Problem) (move : Move) : Type 0 where
  pub group : List Want
  pub phase : ℕ
  pub is : IsPhase p move group phase
  pub behind : length group ≤ phase
  pub member : Want
  pub there : slice_get group (phase - length group) ≡ Some member
  pub operation : operation_of member.kind ≢ Read

-- the move's phase is the output of some sectors
pub record AsksSectors (p : Problem) (move : Move) : Type 0 where
  pub group : List Want
  pub phase : ℕ
  pub is : IsPhase p move group phase
  pub behind : length group ≤ phase
  pub member : Want
  pub there : slice_get group (phase - length group) ≡ Some member
  pub sectors : 1 ≤ sectors_of member.kind

-- the bus may fail at any phase; only the status of a program or an erase says that its LUN isn't ready, where it comes next
abbrev pub IsCauseOf : HalfState → Cause → Type 0
IsCauseOf h BusFailed = Unit {0}
IsCauseOf h (NotReady lun) = (move : Move) × (start : ℕ) × (left : Schedule) × Comes h move start left × (move_lun move ≡ lun) × AsksStatus h.now move
IsCauseOf h Clock = ⊥

-- why the channel stops where a call of the chip failed so
abbrev pub IsToldAs : PostFault → Cause → Type 0
IsToldAs post_fault.Bus cause = cause ≡ BusFailed
IsToldAs post_fault.NotReady cause = (lun : ℕ) × (cause ≡ NotReady lun)

-- the output of some sectors comes next, and the chip has none: it is as it was
pub record LacksSectors (c : ChannelState) (fault : PostFault) (chip : Chip) : Type 0 where
  pub bus : fault ≡ post_fault.Bus
  pub same : chip ≡ c.chip
  pub asked : (move : Move) × (start : ℕ) × (left : Schedule) × Comes c.half move start left × AsksSectors c.half.now move

-- only the chip's faults are known, and its count of that fault, which rose, unless it lacks sectors
pub record IsLostAt (c : ChannelState) (fault : PostFault) (chip : Chip) : Type 0 where
  pub faults : chip.faults ≡ c.chip.faults
  pub why : HasRisen fault c.chip.failures chip.failures ⊎ LacksSectors c fault chip

-- a chip call failed, by the fault that the cause names
pub record Fails (c c' : ChannelState) (cause : Cause) : Type 0 where
  pub chip : Chip
  pub fault : PostFault
  pub told : IsToldAs fault cause
  pub lost : IsLostAt c fault chip
  pub after : c' ≡ record (stopped_by cause c) { chip = chip }

-- the oldest reply that is held for a host goes to the end of those posted
pub record GoesOut (h h' : HalfState) (host : ℕ) (r : Reply) : Type 0 where
  pub before : List Reply
  pub behind : List Reply
  pub held : h.held ≡ before ++ r ∷ behind
  pub oldest : filter (is_to host) before ≡ []
  pub own : r.host ≡ host
  pub after : h' ≡ record h { held = before ++ behind; posted = h.posted ++ r ∷ [] }

abbrev pub Does : Setup → ChannelState → Event → Outcome → ChannelState → Type 0
Does s c (Submit host channel r) o c' = (o ≡ Submitted (length (sent_by host c))) × (c' ≡ submitted c host r)
Does s c (Accept channel) o c' = (o ≡ Accepted (length c.half.accepted)) × Accepts s c c'
Does s c (Plan channel) o c' =
    ((plan : Planning) × (o ≡ Planned plan.finish) × Plans s c.half plan × (c' ≡ record c { half = planned_by s c.half plan }))
    ⊎ ((o ≡ Over s.limit) × HasMoreNodes (next_problem s c.half) s.limit × (c' ≡ c)) ⊎ GaveUp c o c'
Does s c (Bus channel) o c' =
    ((start : ℕ) × (o ≡ Phase start) × Runs c c' start)
    ⊎ ((cause : Cause) × IsCauseOf c.half cause × (o ≡ Stopped cause) × Fails c c' cause) ⊎ GaveUp c o c'
Does s c (Wait channel moment) o c' = (o ≡ Waited (max c.half.now.bus_free moment)) × (c' ≡ record c { half = waited moment c.half })
Does s c (Ready channel lun) o c' = FindsReady lun c o c'
Does s c (PostTo channel host) o c' = (r : Reply) × (h : HalfState) × (o ≡ Posted r.place) × GoesOut c.half h host r × (c' ≡ record c { half = h })
Does s c (Collect channel host) o c' = (r : Reply) × (o ≡ Collected r) × (slice_get (posted_to host c) (length (collected_by host c)) ≡ Some r) × (c' ≡ record c { collected = c.collected ++ r ∷ [] })

abbrev pub StepBy : Option Outcome → Setup → ChannelState → Event → Outcome → ChannelState → Type 0
StepBy (Some refused) s c e o c' = (o ≡ refused) × (c' ≡ after_refusal refused c)
StepBy None s c e o c' = Does s c e o c'

-- from c the event may give this outcome and go on to c'
abbrev pub Step : Setup → ChannelState → Event → Outcome → ChannelState → Type 0
Step s c e o c' = StepBy (refusal s c e) s c e o c'
