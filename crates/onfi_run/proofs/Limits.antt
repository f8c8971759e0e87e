-- Channels are over where a planning opened as many nodes as it may.
use Rattle.std.proofs.Common.{◌≡◌, ◌≢◌, ℕ, ◌+◌, ◌++◌, Bool, true, false, List, [], ◌∷◌, length, map, Some, None, inl, inr, refl, sym, ap, ◌∙◌, subst, get_or, suc, zero, take, arith}
use Rattle.std.specs.Prelude.{Option, Result, Ok, Err, IfOk, IfSome, drop, set, unwrap_or, ◌-◌}
use Rattle.onfi_request.specs.declared.want.Want.{Want}
use Rattle.std.specs.List.{AllByRecursion as Each}
use Rattle.onfi_core.specs.declared.event.Event.TheVariants as event
use Rattle.onfi_core.specs.declared.outcome.Cause.{Cause}
use Rattle.onfi_core.specs.declared.outcome.Cause.TheVariants.{Clock}
use Rattle.onfi_core.specs.declared.outcome.Outcome.{Outcome}
use Rattle.onfi_core.specs.declared.outcome.Outcome.TheVariants as outcome
use Rattle.onfi_core.specs.declared.setup.Choice.{Choice}
use Rattle.onfi_core.specs.declared.setup.Choice.TheVariants.{InOrder, NextPhase}
use Rattle.onfi_core.specs.declared.setup.Setup.{Setup}
use Rattle.onfi_core.specs.Kept.{GoesBy, IsSound}
use Rattle.onfi_core.proofs.Reaching.{events_reach}
use Rattle.onfi_core.specs.State.{ChannelState, HalfState, Planning, wants_from}
use Rattle.onfi_core.specs.Steps.{StepBy, if_stopped, is_late, nothing_to_plan, or_else, plan_refusal, refused_where, taken_next, unplanned}
use Rattle.onfi_script.specs.declared.device.PageDevice.{PageDevice}
use Rattle.onfi_script.specs.declared.row.Row.{Row}
use Rattle.onfi_seq.specs.declared.drained.Drained.{Drained}
use Rattle.onfi_seq.specs.declared.drained.Drained.TheVariants as drained
use Rattle.onfi_seq.specs.declared.turn.TurnAt.{TurnAt}
use Rattle.onfi_seq.specs.declared.turn.TurnAt.TheVariants as turn
use Rattle.onfi_seq.specs.Drained.{Drains, IsLast, MakesBy}
use Rattle.onfi_seq.specs.NoClock.{timed_end}
use Rattle.onfi_seq.specs.Sequencer.{IsRight, Seen, channel_of}
use Rattle.onfi_seq.specs.Turned.{LetsPass, Turned}
use Rattle.onfi_seq.proofs.Same.{same_by_turn}
use Rattle.onfi_reply.specs.Ends.{InboxView}
use Rattle.onfi_queue.specs.Ends.{HostView}
use Rattle.onfi_run.specs.declared.channel_end.ChannelEnd.{ChannelEnd}
use Rattle.onfi_run.specs.declared.channel_end.ChannelEnd.TheVariants as end
use Rattle.onfi_run.specs.declared.gated.Gated.{Gated}
use Rattle.onfi_run.specs.declared.lane.Lane.{Lane}
use Rattle.onfi_run.specs.declared.progress.Progress.{Progress}
use Rattle.onfi_run.specs.declared.progress.Progress.TheVariants as progress
use Rattle.onfi_run.specs.declared.way.Way.{Way}
use Rattle.onfi_run.specs.Ending.{IsOverAt, IsTurnOverAt, channel_end, end_of, nodes_by, progress_of, thread_end}
use Rattle.onfi_run.specs.Keys.{ChannelQueues}
use Rattle.onfi_run.specs.Opening.{AreOpened, AreOpenedOn, IsWithin, lane_queues, nodes_in}
use Rattle.onfi_run.specs.Pace.{EndsWithin, IsLaneWithin, lane_key}
use Rattle.onfi_run.proofs.ByHost.{head_of, tail_of}

-- ---- turns
-- what is right is sound
pub right_is_sound : (Such : Planning → Type 0) (q : Seen) → IsRight Such q → IsSound q.0.setup q.0.half
right_is_sound Such q right = (events_reach Such q.0.setup (channel_of q) right.reached).0.half.sound

-- nothing that refuses a planning at once says that it is over
never_over : (stopped : Option Cause) (a b : Bool) (opened : ℕ)
    → or_else (if_stopped stopped) (or_else (refused_where a outcome.NothingToPlan) (refused_where b (outcome.Stopped Clock))) ≢ Some (outcome.Over opened)
never_over (Some cause) a b opened e = cc
never_over None true b opened e = cc
never_over None false true opened e = cc
never_over None false false opened e = cc

-- a planning that is over was not refused, opened as many nodes as it may, and left the channel as it was
record IsOver (refused : Option Outcome) (s : Setup) (c c' : ChannelState) (opened : ℕ) : Type 0 where
  goes_on : refused ≡ None
  spent : opened ≡ s.limit
  same : c' ≡ c

step_over : (refused : Option Outcome) (s : Setup) (c c' : ChannelState) (opened : ℕ) → refused ≢ Some (outcome.Over opened)
    → StepBy refused s c (event.Plan 0) (outcome.Over opened) c' → IsOver refused s c c' opened
step_over (Some o) s c c' opened not (e, after) = absurd (not (ap Some (sym e)))
step_over None s c c' opened not (inl (plan, e, plans, after)) = absurd (cc)
step_over None s c c' opened not (inr (inl (e, over, after))) = record { goes_on = refl; spent = cc; same = after }
step_over None s c c' opened not (inr (inr (e, same))) = absurd (cc)

-- something is to be planned where a planning isn't refused
to_plan : (stopped : Option Cause) (none late : Bool)
    → or_else (if_stopped stopped) (or_else (refused_where none outcome.NothingToPlan) (refused_where late (outcome.Stopped Clock))) ≡ None → none ≡ false
to_plan (Some cause) none late e = absurd (cc)
to_plan None true late e = absurd (cc)
to_plan None false late e = refl

drop_all : {A : Type 0} (n : ℕ) (xs : List A) → n ≡ length xs → drop n xs ≡ []
drop_all zero [] e = refl
drop_all (suc n) [] e = absurd (cc)
drop_all zero (x ∷ xs) e = absurd (cc)
drop_all (suc n) (x ∷ xs) e = drop_all n xs (omega (arith, e))

take_none : (n : ℕ) (xs : List Want) → xs ≡ [] → take n xs ≡ []
take_none zero xs e = refl
take_none (suc n) xs e = subst (λ ys. take (suc n) ys ≡ []) (sym e) refl

either_way : {B : Type 0} (P : Option B → Type 0) → P None → ((b : B) → P (Some b)) → (o : Option B) → P o
either_way P none some None = none
either_way P none some (Some b) = some b

-- by the next phase nothing ever is to be planned
none_by_books : (s : Setup) (h : HalfState) → IsSound s h → s.choice ≡ NextPhase → nothing_to_plan s h ≡ true
none_by_books s h sound next =
    either_way (λ books. GoesBy s books h.now h.left (record { planned = h.planned; accepted = length h.accepted; outdated = h.outdated; stopped = h.stopped }) → nothing_to_plan s h ≡ true) (λ way.
    let no : InOrder ≡ NextPhase = sym way.choice ∙ next in
    absurd (cc)) (λ books way.
    let none : unplanned s h ≡ [] = ap (wants_from s.geometry h.planned) (drop_all h.planned h.accepted way.all) in
    let taken : taken_next s h ≡ [] = take_none (h.batch - length h.now.wants) (unplanned s h) none in
    rw (taken, way.current) refl) h.books sound.way

-- so none is over
nodes_spent : (choice : Choice) (s : Setup) (h : HalfState) (opened : ℕ) → s.choice ≡ choice → IsSound s h → nothing_to_plan s h ≡ false → opened ≡ s.limit
    → nodes_by choice s.limit ≡ Some opened
nodes_spent InOrder s h opened is sound left spent = ap Some (sym spent)
nodes_spent NextPhase s h opened is sound left spent = let none = none_by_books s h sound is in absurd (cc)

passing_keeps : (now : ℕ) (q mid : Seen) → LetsPass now q mid → mid.0.setup ≡ q.0.setup
passing_keeps now q mid (inl (why, is)) = ap (λ (x : Seen). x.0.setup) is
passing_keeps now q mid (inr p) = ap (λ (x : Seen). x.0.setup) p.after

turned_over : (now : ℕ) (q q' : Seen) (opened : ℕ) → Turned now q (turn.Over opened) q' → IsSound q'.0.setup q'.0.half → nodes_in q.0.setup ≡ Some opened
turned_over now q q' opened (mid, passes, p, planned) sound =
    let s = mid.0.setup in
    let no = never_over mid.0.half.stopped (nothing_to_plan s mid.0.half) (is_late s mid.0.half) opened in
    let over = step_over (plan_refusal s mid.0.half) s (channel_of mid) (channel_of q') opened no (p.step 0) in
    let half : q'.0.half ≡ mid.0.half = ap (λ (c : ChannelState). c.half) over.same in
    let setup : q'.0.setup ≡ s = ap (λ (x : Seen). x.0.setup) p.after in
    let was : IsSound s mid.0.half = subst (λ h. IsSound s h) half (subst (λ x. IsSound x q'.0.half) setup sound) in
    let some = to_plan mid.0.half.stopped (nothing_to_plan s mid.0.half) (is_late s mid.0.half) over.goes_on in
    ap nodes_in (sym (passing_keeps now q mid passes)) ∙ nodes_spent s.choice s mid.0.half opened refl was some over.spent

progress_over : (now : ℕ) (q q' : Seen) (none : Bool) (t : TurnAt) → Turned now q t q' → IsSound q'.0.setup q'.0.half → IsTurnOverAt (nodes_in q.0.setup) (progress_of none t)
progress_over now q q' none (turn.Stopped cause) turned sound = tt
progress_over now q q' true (turn.Over opened) turned sound = turned_over now q q' opened turned sound
progress_over now q q' false (turn.Over opened) turned sound = tt
progress_over now q q' true turn.Memory turned sound = tt
progress_over now q q' false turn.Memory turned sound = tt
progress_over now q q' none (turn.Waits until) turned sound = tt
progress_over now q q' none turn.Phase turned sound = tt
progress_over now q q' none turn.Planned turned sound = tt
progress_over now q q' none turn.Posted turned sound = tt
progress_over now q q' none turn.Accepted turned sound = tt
progress_over now q q' none turn.PostFull turned sound = tt
progress_over now q q' none turn.Idle turned sound = tt

-- a turn that is over opened as many nodes as the setup's limit
pub over_kept : (now : ℕ) (q q' : Seen) (none : Bool) (t : TurnAt) (p : Progress) → Turned now q t q' → IsSound q'.0.setup q'.0.half → p ≡ progress_of none t → IsTurnOverAt (nodes_in q.0.setup) p
over_kept now q q' none t p turned sound told = subst (IsTurnOverAt (nodes_in q.0.setup)) (sym told) (progress_over now q q' none t turned sound)

-- ---- drainings
made_keeps : (Such : Planning → Type 0) (now : ℕ) (q : Seen) (answers : List TurnAt) (q' : Seen) → MakesBy Such (Turned now) q answers q' → q'.0.setup ≡ q.0.setup
made_keeps Such now q [] q' is = ap (λ (x : Seen). x.0.setup) is
made_keeps Such now q (answer ∷ answers) q' (mid, made, goes, turned, planned) = (same_by_turn now mid answer q' turned).setup ∙ made_keeps Such now q answers mid made

last_over : (Such : Planning → Type 0) (now : ℕ) (q : Seen) (answers : List TurnAt) (q' : Seen) (opened : ℕ) → MakesBy Such (Turned now) q answers q' → IsLast (turn.Over opened) answers → IsSound q'.0.setup q'.0.half → nodes_in q.0.setup ≡ Some opened
last_over Such now q [] q' opened made last sound = absurd last
last_over Such now q (answer ∷ answers) q' opened (mid, made, goes, turned, planned) last sound =
    sym (ap nodes_in (made_keeps Such now q answers mid made)) ∙ turned_over now mid q' opened (subst (λ t. Turned now mid t q') last turned) sound

-- .. and so of a draining
pub drained_over : (Such : Planning → Type 0) (now : ℕ) (q : Seen) (hosts : List HostView) (inboxes inboxes' : List InboxView) (turns : ℕ) (e : Drained) (q' : Seen) (told : ChannelEnd) → Drains Such now q hosts inboxes turns (timed_end e) q' inboxes'
    → IsSound q'.0.setup q'.0.half → told ≡ end_of e → IsOverAt (nodes_in q.0.setup) told
drained_over Such now q hosts inboxes inboxes' turns drained.Empty q' told d sound is = subst (IsOverAt (nodes_in q.0.setup)) (sym is) tt
drained_over Such now q hosts inboxes inboxes' turns drained.Memory q' told d sound is = subst (IsOverAt (nodes_in q.0.setup)) (sym is) tt
drained_over Such now q hosts inboxes inboxes' turns drained.TurnsSpent q' told d sound is = subst (IsOverAt (nodes_in q.0.setup)) (sym is) tt
drained_over Such now q hosts inboxes inboxes' turns (drained.Stopped cause) q' told d sound is = subst (IsOverAt (nodes_in q.0.setup)) (sym is) tt
drained_over Such now q hosts inboxes inboxes' turns (drained.Over opened) q' told d sound is =
    subst (IsOverAt (nodes_in q.0.setup)) (sym is) (last_over Such now q d.answers d.last opened d.ran d.ends.0 (subst (λ (x : Seen). IsSound x.0.setup x.0.half) d.after sound))

-- ---- threads
pub thread_over : (limit : Option ℕ) (spent all_ended : Bool) (p : Progress) → IsTurnOverAt limit p → IfSome (thread_end spent all_ended p) (IsOverAt limit)
thread_over limit spent all_ended progress.Advanced over = tt
thread_over limit spent all_ended progress.Moved over = tt
thread_over limit spent all_ended (progress.Waits until) over = tt
thread_over limit spent true progress.Quiet over = tt
thread_over limit spent false progress.Quiet over = tt
thread_over limit true all_ended progress.Refused over = tt
thread_over limit false all_ended progress.Refused over = tt
thread_over limit spent all_ended progress.Starved over = tt
thread_over limit spent all_ended (progress.Stopped cause) over = tt
thread_over limit spent all_ended (progress.Over opened) over = over

-- how it ended before, or ends now
pub ends_over : (limit : Option ℕ) (ends : Option ChannelEnd) (before after : ChannelEnd) → IfSome ends (IsOverAt limit) → IsOverAt limit before → after ≡ unwrap_or ends before → IsOverAt limit after
ends_over limit None before after now was is = subst (IsOverAt limit) (sym is) was
ends_over limit (Some e) before after now was is = subst (IsOverAt limit) (sym is) now

-- ---- channels
-- what is reported of a channel is over where its draining or its thread is
pub reported_over : (limit : Option ℕ) (drained thread : ChannelEnd) (complete short : Bool) → IsOverAt limit drained → IsOverAt limit thread → IsOverAt limit (channel_end drained thread complete short)
reported_over limit end.Done thread true short d t = tt
reported_over limit end.Done (end.Stopped cause) false true d t = tt
reported_over limit end.Done (end.Over opened) false true d t = t
reported_over limit end.Done end.Done false true d t = tt
reported_over limit end.Done end.Unfinished false true d t = tt
reported_over limit end.Done (end.Stopped cause) false false d t = tt
reported_over limit end.Done (end.Over opened) false false d t = t
reported_over limit end.Done end.Done false false d t = tt
reported_over limit end.Done end.Unfinished false false d t = tt
reported_over limit (end.Stopped cause) thread complete short d t = tt
reported_over limit (end.Over opened) thread complete short d t = d
reported_over limit end.Unfinished thread complete short d t = tt

-- ---- all channels
-- hosts leave queues, limits and ends as they are
pub keys_queues : {X : Type 0} (queues : X → ChannelQueues) (new old : List (Lane X)) → map (lane_key queues) new ≡ map (lane_key queues) old
    → map (λ (l : Lane X). queues l.channel) new ≡ map (λ (l : Lane X). queues l.channel) old
keys_queues queues [] [] e = refl
keys_queues queues [] (l ∷ old) e = absurd (cc)
keys_queues queues (l ∷ new) [] e = absurd (cc)
keys_queues queues (k ∷ new) (l ∷ old) e =
    let here = ap (λ p. p.0) (head_of (lane_key queues k) (lane_key queues l) (map (lane_key queues) new) (map (lane_key queues) old) e) in
    let rest = keys_queues queues new old (tail_of (lane_key queues k) (lane_key queues l) (map (lane_key queues) new) (map (lane_key queues) old) e) in
    ap (λ x. x ∷ map (λ l. queues l.channel) new) here ∙ ap (λ xs. queues l.channel ∷ xs) rest

pub keys_within : {X : Type 0} (queues : X → ChannelQueues) (new old : List (Lane X)) → map (lane_key queues) new ≡ map (lane_key queues) old
    → Each (EndsWithin queues) old → Each (EndsWithin queues) new
keys_within queues [] [] e all = tt
keys_within queues [] (l ∷ old) e all = absurd (cc)
keys_within queues (l ∷ new) [] e all = absurd (cc)
keys_within queues (k ∷ new) (l ∷ old) e (here, all) =
    let same = head_of (lane_key queues k) (lane_key queues l) (map (lane_key queues) new) (map (lane_key queues) old) e in
    let rest = keys_within queues new old (tail_of (lane_key queues k) (lane_key queues l) (map (lane_key queues) new) (map (lane_key queues) old) e) all in
    (subst (λ p. IsOverAt p.0.nodes p.1) (sym same) here, rest)

-- one that changed is within its limit where it was
pub set_within : {X : Type 0} (queues : X → ChannelQueues) (lanes : List (Lane X)) (at : ℕ) (d new : Lane X) → (EndsWithin queues (get_or lanes at d) → EndsWithin queues new)
    → Each (EndsWithin queues) lanes → Each (EndsWithin queues) (set lanes at new)
set_within queues [] at d new one all = tt
set_within queues (l ∷ lanes) zero d new one (here, all) = (one here, all)
set_within queues (l ∷ lanes) (suc at) d new one (here, all) = (here, set_within queues lanes at d new one all)

-- as they open none is over, and each has the limit of the run
opened_within : {P G : Type 0} (setup : Setup) (rows : List Row) (number : ℕ) (gates : List G) (lanes : List (Lane (Gated P G))) → AreOpened setup rows number gates lanes
    → Each (λ l. IsWithin l × ((lane_queues l).nodes ≡ nodes_in setup)) lanes
opened_within setup rows number [] [] all = tt
opened_within setup rows number (g ∷ gates) [] all = absurd all
opened_within setup rows number [] (l ∷ lanes) all = absurd all
opened_within setup rows number (g ∷ gates) (l ∷ lanes) (here, all) =
    let over = subst (IsOverAt (lane_queues l).nodes) (sym here.unfinished) tt in
    ((over, ap nodes_in here.setup_is), opened_within setup rows (number + 1) gates lanes all)

-- lanes of the same queues and limits as lanes that opened so are within the limit of the run where their threads are
pub limits_kept : {P G : Type 0} (setup : Setup) (nodes : Option ℕ) (opened lanes : List (Lane (Gated P G))) → nodes_in setup ≡ nodes
    → Each (λ l. IsWithin l × ((lane_queues l).nodes ≡ nodes_in setup)) opened → map lane_queues lanes ≡ map lane_queues opened → Each (λ l. IsWithin l) lanes
    → Each (λ l. ((lane_queues l).nodes ≡ nodes) × IsWithin l) lanes
limits_kept setup nodes [] [] is all same within = tt
limits_kept setup nodes [] (l ∷ lanes) is all same within = absurd (cc)
limits_kept setup nodes (o ∷ opened) [] is all same within = tt
limits_kept setup nodes (o ∷ opened) (l ∷ lanes) is (here, all) same (w, within) =
    let queues = ap (λ q. q.nodes) (head_of (lane_queues l) (lane_queues o) (map lane_queues lanes) (map lane_queues opened) same) in
    let rest = tail_of (lane_queues l) (lane_queues o) (map lane_queues lanes) (map lane_queues opened) same in
    ((queues ∙ here.1 ∙ is, w), limits_kept setup nodes opened lanes is all rest within)

firsts : {P G : Type 0} (setup : Setup) (lanes : List (Lane (Gated P G))) → Each (λ l. IsWithin l × ((lane_queues l).nodes ≡ nodes_in setup)) lanes → Each (λ l. IsWithin l) lanes
firsts setup [] all = tt
firsts setup (l ∷ lanes) (here, all) = (here.0, firsts setup lanes all)

pub all_open_within : {P G : Type 0} (rows : List Row) (device : PageDevice) (way : Way P) (gates : List G) (opened : List (Lane (Gated P G))) → AreOpenedOn rows device way gates opened
    → Each (λ l. IsWithin l) opened
all_open_within rows device way gates opened (setup, sets, all) = firsts setup opened (opened_within setup rows 0 (take setup.channels gates) opened all)

pub all_within : {P G : Type 0} (rows : List Row) (device : PageDevice) (way : Way P) (gates : List G) (opened lanes : List (Lane (Gated P G))) → AreOpenedOn rows device way gates opened
    → map lane_queues lanes ≡ map lane_queues opened → Each (λ l. IsWithin l) lanes → Each (λ l. ((lane_queues l).nodes ≡ nodes_by way.choice way.limit) × IsWithin l) lanes
all_within rows device way gates opened lanes (setup, sets, all) same within =
    limits_kept setup (nodes_by way.choice way.limit) opened lanes (ap (λ n. nodes_by setup.choice n) sets.limit ∙ ap (λ c. nodes_by c way.limit) sets.choice) (opened_within setup rows 0 (take setup.channels gates) opened all) same within

pub each_shorter : {X : Type 0} (P : X → Type 0) (xs : List X) (x : X) → Each P (xs ++ x ∷ []) → Each P xs × P x
each_shorter P [] x (here, all) = (tt, here)
each_shorter P (y ∷ xs) x (here, all) = let rest = each_shorter P xs x all in ((here, rest.0), rest.1)

-- two things that hold of a value
pub IfOk-both : {A E : Type 0} (r : Result A E) (P Q : A → Type 0) → IfOk r P → IfOk r Q → IfOk r (λ a. P a × Q a)
IfOk-both (Ok a) P Q p q = (p, q)
IfOk-both (Err e) P Q p q = tt
