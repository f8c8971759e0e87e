-- What draining and closing a channel come to.
use Rattle.std.specs.Prelude.{◌≡◌, ◌≢◌, ◌⊎◌, ℕ, ◌+◌, ◌<◌, ◌≤◌, Bool, true, false, List, [], ◌∷◌, ◌++◌, length, map, Some, IfSome, slice_get}
use Rattle.std.specs.List.{filter}
use Rattle.atomic_table.specs.Seated.{TableId}
use Rattle.onfi_request.specs.declared.reply.Reply.{Reply}
use Rattle.onfi_group.specs.Words.{number}
use Rattle.onfi_core.specs.Kept.{is_of_place}
use Rattle.onfi_core.specs.State.{HalfState, Planning, is_from}
use Rattle.onfi_core.specs.Steps.{none_left}
use Rattle.onfi_queue.specs.Ends.{AreHostsOf, HostView}
use Rattle.onfi_reply.specs.declared.opened_for.OpenedFor.{OpenedFor}
use Rattle.onfi_reply.specs.Ends.{InboxView, PosterView, Settled}
use Rattle.onfi_reply.specs.Replies.{IsNext}
use Rattle.onfi_seq.specs.declared.closed.Closed.{Closed}
use Rattle.onfi_seq.specs.declared.drained.DrainedAt.{DrainedAt}
use Rattle.onfi_seq.specs.declared.drained.DrainedAt.TheVariants as drained
use Rattle.onfi_seq.specs.declared.turn.TurnAt.{TurnAt}
use Rattle.onfi_seq.specs.declared.turn.TurnAt.TheVariants as turn
use Rattle.onfi_seq.specs.Sequencer.{Seen, SequencerFields}
use Rattle.onfi_seq.specs.Turned.{Turned}

-- ---- the other ends of a channel's queues
abbrev pub inbox_queues : List InboxView → List TableId
inbox_queues inboxes = map (λ (i : InboxView). i.queue) inboxes

abbrev pub poster_queues : List PosterView → List TableId
poster_queues posters = map (λ (p : PosterView). p.queue) posters

-- hosts and inboxes are the other ends of the queues, in the order of the hosts' numbers
pub record AreOtherEnds (q : SequencerFields) (hosts : List HostView) (inboxes : List InboxView) : Type 0 where
  pub hosts_are : AreHostsOf q.intake.queue 0 hosts
  pub inboxes_are : inbox_queues inboxes ≡ poster_queues q.posters

-- ---- what inboxes take in
-- each is next after those and after what of these stands before it
abbrev pub AreNextBehind : OpenedFor → List Reply → List Reply → Type 0
AreNextBehind opened before [] = Unit {0}
AreNextBehind opened before (r ∷ rs) = IsNext opened before r × AreNextBehind opened (before ++ r ∷ []) rs

-- more waits at the end, refusals of memory may have been counted, and nothing else changed
pub record HasGrown (old new : InboxView) : Type 0 where
  pub more : List Reply
  pub after : new ≡ record old { waiting = old.waiting ++ more; refused = new.refused }
  pub next : AreNextBehind old.opened (old.given ++ old.waiting) more
  pub refused : old.refused ≤ new.refused

-- .. of each of these
pub record HaveGrown (old new : List InboxView) : Type 0 where
  pub count : length new ≡ length old
  pub each : (at : ℕ) (i i' : InboxView) → slice_get old at ≡ Some i → slice_get new at ≡ Some i' → HasGrown i i'

abbrev pub total_of : List ℕ → ℕ
total_of [] = 0
total_of (n ∷ ns) = n + total_of ns

-- how often a taking in of these was refused memory
abbrev pub refusals_of : List InboxView → ℕ
refusals_of inboxes = total_of (map (λ (i : InboxView). i.refused) inboxes)

-- ---- draining
-- what ends a draining: Stopped and Waits, and Over and Memory where no phase is left
abbrev pub ends_it : TurnAt → HalfState → Bool
ends_it (turn.Stopped cause) h = true
ends_it (turn.Waits until) h = true
ends_it (turn.Over opened) h = none_left h
ends_it turn.Memory h = none_left h
ends_it turn.Posted h = false
ends_it turn.Accepted h = false
ends_it turn.Planned h = false
ends_it turn.Phase h = false
ends_it turn.PostFull h = false
ends_it turn.Idle h = false

-- the last of these answers, if there is one, doesn't end a draining
abbrev pub GoesOn : List TurnAt → HalfState → Type 0
GoesOn [] h = Unit {0}
GoesOn (answer ∷ answers) h = ends_it answer h ≡ false

-- what a turn planned is such
abbrev pub TurnPlans : (Planning → Type 0) → TurnAt → Seen → Type 0
TurnPlans Such answer q' = answer ≡ turn.Planned → IfSome q'.0.half.last Such

-- such turns gave these answers, the last first, each from where the one before it ended; what each planned is such, and none but the last
-- ends a draining
abbrev pub MakesBy : (Planning → Type 0) → (Seen → TurnAt → Seen → Type 0) → Seen → List TurnAt → Seen → Type 0
MakesBy Such Turns q [] q' = q' ≡ q
MakesBy Such Turns q (answer ∷ answers) q' = (mid : Seen) × MakesBy Such Turns q answers mid × GoesOn answers mid.0.half × Turns mid answer q' × TurnPlans Such answer q'

-- the last answer
abbrev pub IsLast : TurnAt → List TurnAt → Type 0
IsLast answer [] = ⊥
IsLast answer (last ∷ answers) = last ≡ answer

-- as many items of each host are accepted as it sent
abbrev pub AreAccepted : HalfState → List HostView → Type 0
AreAccepted h hosts = (host : ℕ) (x : HostView) → slice_get hosts host ≡ Some x → length x.sent ≡ length (filter (is_from host) h.accepted)

-- .. and each accepted item has exactly one posted reply
pub record IsAnswered (h : HalfState) (hosts : List HostView) : Type 0 where
  pub accepted : AreAccepted h hosts
  pub each : (place : ℕ) → place < length h.accepted → number (is_of_place place) h.posted ≡ 1

-- an item that was sent isn't accepted, or an accepted one has no posted reply
abbrev pub IsShort : HalfState → List HostView → Type 0
IsShort h hosts = AreAccepted h hosts → length h.posted ≢ length h.accepted

-- How the draining ended, and how many takings in of it were refused. Empty and TurnsSpent: no turn ended it. Memory: the last
-- turn answered so with no phase left; or no turn ended it, and a taking in was refused.
abbrev pub EndsAs : DrainedAt → HalfState → List HostView → ℕ → List TurnAt → ℕ → Type 0
EndsAs drained.Empty h hosts turns answers refused = GoesOn answers h × IsAnswered h hosts × (refused ≡ 0)
EndsAs drained.TurnsSpent h hosts turns answers refused = GoesOn answers h × (length answers ≡ turns) × IsShort h hosts × (refused ≡ 0)
EndsAs (drained.Stopped cause) h hosts turns answers refused = IsLast (turn.Stopped cause) answers × (refused ≡ 0)
EndsAs (drained.Over opened) h hosts turns answers refused = IsLast (turn.Over opened) answers × (none_left h ≡ true) × (refused ≡ 0)
EndsAs drained.Memory h hosts turns answers refused =
    (IsLast turn.Memory answers × (none_left h ≡ true) × (refused ≡ 0)) ⊎ (GoesOn answers h × (refused ≡ 1))
EndsAs (drained.Waits until) h hosts turns answers refused = IsLast (turn.Waits until) answers × (refused ≡ 0)

-- a draining that ends where memory was refused leaves the mark of it; another end changes nothing
abbrev pub left_by : DrainedAt → Seen → Seen
left_by drained.Memory q = (record q.0 { short = true }, q.1)
left_by drained.Empty q = q
left_by drained.TurnsSpent q = q
left_by (drained.Stopped cause) q = q
left_by (drained.Waits until) q = q
left_by (drained.Over opened) q = q

-- no more such turns than those were made, what each planned is such, the end is given as it was, and that many takings in were refused
pub record DrainsBy (Such : Planning → Type 0) (Turns : Seen → TurnAt → Seen → Type 0) (q : Seen) (hosts : List HostView) (inboxes : List InboxView) (turns : ℕ) (end : DrainedAt) (q' : Seen) (inboxes' : List InboxView) : Type 0 where
  pub answers : List TurnAt
  pub last : Seen
  pub ran : MakesBy Such Turns q answers last
  pub few : length answers ≤ turns
  pub refused : ℕ
  pub counted : refusals_of inboxes' ≡ refusals_of inboxes + refused
  pub ends : EndsAs end last.0.half hosts turns answers refused
  pub after : q' ≡ left_by end last

-- .. by turns at the moment
abbrev pub Drains : (Planning → Type 0) → ℕ → Seen → List HostView → List InboxView → ℕ → DrainedAt → Seen → List InboxView → Type 0
Drains Such now q hosts inboxes turns end q' inboxes' = DrainsBy Such (Turned now) q hosts inboxes turns end q' inboxes'

-- ---- inside a draining
-- how it ends before a turn, where that many are made
abbrev pub EndsBefore : DrainedAt → HalfState → List HostView → ℕ → ℕ → Type 0
EndsBefore drained.Empty h hosts turns made = IsAnswered h hosts
EndsBefore drained.TurnsSpent h hosts turns made = (made ≡ turns) × IsShort h hosts
EndsBefore (drained.Stopped cause) h hosts turns made = ⊥
EndsBefore (drained.Waits until) h hosts turns made = ⊥
EndsBefore (drained.Over opened) h hosts turns made = ⊥
EndsBefore drained.Memory h hosts turns made = ⊥

-- how it ends after that answer
abbrev pub EndsBehind : DrainedAt → TurnAt → HalfState → Type 0
EndsBehind (drained.Stopped cause) answer h = answer ≡ turn.Stopped cause
EndsBehind (drained.Waits until) answer h = answer ≡ turn.Waits until
EndsBehind (drained.Over opened) answer h = (answer ≡ turn.Over opened) × (none_left h ≡ true)
EndsBehind drained.Memory answer h = (answer ≡ turn.Memory) × (none_left h ≡ true)
EndsBehind drained.Empty answer h = ⊥
EndsBehind drained.TurnsSpent answer h = ⊥

-- ---- closing
-- of each queue: what the inbox popped, and then what waits, is what was posted
abbrev pub AllSettled : List PosterView → List InboxView → Type 0
AllSettled [] [] = Unit {0}
AllSettled (p ∷ ps) (i ∷ is) = Settled p i × AllSettled ps is
AllSettled [] (i ∷ is) = ⊥
AllSettled (p ∷ ps) [] = ⊥

-- where as much was posted as accepted, and as much accepted as was sent, what each host sent is what was accepted of it, and each accepted item has exactly one posted reply
pub record IsComplete (h : HalfState) (hosts : List HostView) : Type 0 where
  pub sent : (host : ℕ) (x : HostView) → slice_get hosts host ≡ Some x → x.sent ≡ filter (is_from host) h.accepted
  pub each : (place : ℕ) → place < length h.accepted → number (is_of_place place) h.posted ≡ 1

abbrev pub CompletesWhere : Closed → HalfState → List HostView → Type 0
CompletesWhere closed h hosts = closed.posted ≡ closed.accepted → closed.accepted ≡ total_of closed.sent → IsComplete h hosts
