-- Which events are refused, and what an event does that isn't.
use Rattle.std.proofs.Common.{◌≡◌, ℕ, ◌<◌, ◌≤◌, ◌^◌, inl, inr, Bool, true, false, List, [], ◌∷◌, ◌++◌, length, Option, Some, None, refl, sym, ap, ◌∙◌, subst, arith}
use Rattle.std.specs.Prelude.{max, nat_le, ◌==◌, Result, Ok, Err, IfOk, IfErr, OnErr}
use Rattle.std.specs.List.{filter}
use Rattle.std.proofs.lemmas.Bool.{cases_Bool}
use Rattle.std.proofs.lemmas.Bool.Decides.{nat_tests}
use Rattle.onfi_request.specs.declared.checking.RequestFault.{RequestFault}
use Rattle.onfi_request.specs.declared.reply.Reply.{Reply}
use Rattle.onfi_request.specs.declared.request.Item.{Item}
use Rattle.onfi_request.specs.declared.request.Request.{Request}
use Rattle.onfi_chip.specs.Chip.{Chip, found_ready}
use Rattle.onfi_core.specs.declared.event.Event.{Event}
use Rattle.onfi_core.specs.declared.event.Event.TheVariants as event
use Rattle.onfi_core.specs.declared.outcome.Cause.{Cause}
use Rattle.onfi_core.specs.declared.outcome.Outcome.{Outcome}
use Rattle.onfi_core.specs.declared.outcome.Outcome.TheVariants as outcome
use Rattle.onfi_core.specs.declared.setup.Setup.{Setup}
use Rattle.onfi_core.specs.declared.half.passing.WaitRefusal.{WaitRefusal}
use Rattle.onfi_core.specs.Ways.{way_waited}
use Rattle.onfi_core.specs.State.{ChannelState, HalfState, Way, collected_by, flight_of, is_to, posted_to, sent_by, way_of, with_way}
use Rattle.onfi_core.specs.Steps.{Step, StepBy, Does, refusal, after_refusal, stopped_by, fault_of, is_empty, held_for, not_collected, accept_refusal, accepting, latest_by, or_else, outdated_by, if_stopped, readied, ready_of, ready_refusal, refused_where, wait_refusal, waited}
use Rattle.onfi_core.specs.Refusals.{wait_outcome, waited_outcome}
use Rattle.onfi_core.specs.View.{HalfView, IsOldest}

pub step_refused : (s : Setup) (c : ChannelState) (e : Event) (o : Outcome) (c' : ChannelState) → refusal s c e ≡ Some o → c' ≡ after_refusal o c → Step s c e o c'
step_refused s c e o c' r a = let P : Option Outcome → Type 0 = λ q. StepBy q s c e o c' in subst P (sym r) (refl, a)

pub step_does : (s : Setup) (c : ChannelState) (e : Event) (o : Outcome) (c' : ChannelState) → refusal s c e ≡ None → Does s c e o c' → Step s c e o c'
step_does s c e o c' r d = let P : Option Outcome → Type 0 = λ q. StepBy q s c e o c' in subst P (sym r) d

is_most : (a b : ℕ) → a ≤ b → nat_le a b ≡ true
is_most a b h = grind (arith, nat_tests)

is_above : (a b : ℕ) → b < a → nat_le a b ≡ false
is_above a b h = grind (arith, nat_tests)

-- Submit

module _ (s : Setup) (c : ChannelState) (host channel : ℕ) (r : Request) where
  module _ (known : host < s.hosts) where
    pub refused : (fault : RequestFault) → fault_of s.geometry r ≡ Some fault → Step s c (event.Submit host channel r) (outcome.Refused fault r) c
    refused fault f = step_refused s c (event.Submit host channel r) (outcome.Refused fault r) c (rw (is_above s.hosts host known, f) refl) refl

    pub serials_spent : fault_of s.geometry r ≡ None → 2 ^ 32 ≤ length (sent_by host c) → Step s c (event.Submit host channel r) (outcome.SerialsSpent r) c
    serials_spent f h = step_refused s c (event.Submit host channel r) (outcome.SerialsSpent r) c (rw (is_above s.hosts host known, f, is_most (2 ^ 32) (length (sent_by host c)) h) refl) refl

    pub submit_full : fault_of s.geometry r ≡ None → length (sent_by host c) < 2 ^ 32 → s.submit_cap ≤ length c.waiting → Step s c (event.Submit host channel r) (outcome.SubmitFull r) c
    submit_full f low h =
        step_refused s c (event.Submit host channel r) (outcome.SubmitFull r) c
        (rw (is_above s.hosts host known, f, is_above (2 ^ 32) (length (sent_by host c)) low, is_most s.submit_cap (length c.waiting) h) refl) refl

    pub submit_open : fault_of s.geometry r ≡ None → length (sent_by host c) < 2 ^ 32 → length c.waiting < s.submit_cap → refusal s c (event.Submit host channel r) ≡ None
    submit_open f low h = rw (is_above s.hosts host known, f, is_above (2 ^ 32) (length (sent_by host c)) low, is_above s.submit_cap (length c.waiting) h) refl

-- A stop that stands

same_stop : (c : ChannelState) (cause : Cause) → c.half.stopped ≡ Some cause → c ≡ stopped_by cause c
same_stop c cause e = ap (λ (o : Option Cause). let z : ChannelState = record c { half = record c.half { stopped = o } } in z) e

-- the front of what waits is accepted
pub accepts : (s : Setup) (c c' : ChannelState) (channel : ℕ) (x : Item) (behind : List Item) → accept_refusal c.half ≡ None → c.waiting ≡ x ∷ behind → c' ≡ record c { half = accepting s c.half x; waiting = behind }
    → Step s c (event.Accept channel) (outcome.Accepted (length c.half.accepted)) c'
accepts s c c' channel x behind h e is =
    let f = refused_where (is_empty c.waiting) outcome.NothingToAccept in
    let z : f ≡ None = ap (λ (xs : List Item). refused_where (is_empty xs) outcome.NothingToAccept) e in
    step_does s c (event.Accept channel) (outcome.Accepted (length c.half.accepted)) c' (ap (λ (x : Option Outcome). or_else x f) h ∙ z) (refl, (x, behind, e, is))

-- Bus

leaves : (c : ChannelState) (stop : Option Cause) (b : _) (why o : Outcome) → c ≡ after_refusal why c → c.half.stopped ≡ stop → or_else (if_stopped stop) (refused_where b why) ≡ Some o → c ≡ after_refusal o c
leaves c (Some cause) b why o same e h =
    let q : outcome.Stopped cause ≡ o = cc in
    subst (λ (p : Outcome). c ≡ after_refusal p c) q (same_stop c cause e)
leaves c None true why o same e h = let q : why ≡ o = cc in subst (λ (p : Outcome). c ≡ after_refusal p c) q same
leaves c None false why o same e h = cc

-- Wait

pub not_waited : (s : Setup) (c : ChannelState) (channel moment : ℕ) (o : Outcome) → wait_refusal moment c.half ≡ Some o → Step s c (event.Wait channel moment) o c
not_waited s c channel moment o h = step_refused s c (event.Wait channel moment) o c h (leaves c c.half.stopped _ outcome.TooLate o refl refl h)

pub after_waiting : (s : Setup) (c : ChannelState) (channel moment : ℕ) (old new : HalfView) (result : Result ℕ WaitRefusal) → old.state ≡ c.half
    → IfOk result (λ bus_free. (wait_refusal moment c.half ≡ None) × (bus_free ≡ max c.half.now.bus_free moment) × (new ≡ record old { state = waited moment c.half }))
    → IfErr result (λ refusal. wait_refusal moment c.half ≡ Some (wait_outcome refusal)) → OnErr result (new ≡ old)
    → Step s c (event.Wait channel moment) (waited_outcome result) (record c { half = new.state })
after_waiting s c channel moment old new (Ok bus_free) same (open', e, is) refused left =
    step_does s c (event.Wait channel moment) (outcome.Waited bus_free) (record c { half = new.state }) open' (ap outcome.Waited e, ap (λ (v : HalfView). let z : ChannelState = record c { half = v.state } in z) is)
after_waiting s c channel moment old new (Err refusal) same done refused left =
    let P : HalfState → Type 0 = λ h. Step s c (event.Wait channel moment) (wait_outcome refusal) (record c { half = h }) in
    subst P (sym (ap (λ (v : HalfView). v.state) left ∙ same)) (not_waited s c channel moment (wait_outcome refusal) refused)

-- a half waits, whatever its fields are
pub waits : (v w : HalfView) (moment bus_free : ℕ) (way' : Way) (outdated : Bool) → v ≡ w → v.state.stopped ≡ None → latest_by v.state.books moment (flight_of v.state) < 2 ^ 62
    → (bus_free ≡ max v.state.now.bus_free moment) × (way' ≡ way_waited moment (way_of v.state)) → outdated ≡ outdated_by v.state.books v.state.outdated v.state.now.bus_free moment
    → (wait_refusal moment w.state ≡ None) × (bus_free ≡ max w.state.now.bus_free moment)
    × ((let z : HalfView = record v { state = record (with_way v.state way') { outdated = outdated } } in z) ≡ record w { state = waited moment w.state })
waits v w moment bus_free way' outdated same going low (free, ef) eo =
    let new : HalfView = record v { state = record (with_way v.state way') { outdated = outdated } } in
    let P : HalfView → Type 0 = λ x. (wait_refusal moment x.state ≡ None) × (bus_free ≡ max x.state.now.bus_free moment) × (new ≡ record x { state = waited moment x.state }) in
    let early = is_above (2 ^ 62) (latest_by v.state.books moment (flight_of v.state)) low in
    subst P same (rw (going, early) refl, free, rw (ef, eo) refl)

-- it posts nothing
pub waiting_posts : (s : Setup) (c : ChannelState) (moment : ℕ) (old new : HalfView) (result : Result ℕ WaitRefusal) → old.state ≡ c.half
    → IfOk result (λ bus_free. (wait_refusal moment c.half ≡ None) × (bus_free ≡ max c.half.now.bus_free moment) × (new ≡ record old { state = waited moment c.half }))
    → OnErr result (new ≡ old) → new.state.posted ≡ c.half.posted
waiting_posts s c moment old new (Ok bus_free) same (open', e, is) left = ap (λ (v : HalfView). v.state.posted) is
waiting_posts s c moment old new (Err refusal) same done left = ap (λ (v : HalfView). v.state.posted) left ∙ ap (λ (h : HalfState). h.posted) same

-- .. and it stops nothing
pub waiting_stops : (s : Setup) (c : ChannelState) (moment : ℕ) (old new : HalfView) (result : Result ℕ WaitRefusal) → old.state ≡ c.half
    → IfOk result (λ bus_free. (wait_refusal moment c.half ≡ None) × (bus_free ≡ max c.half.now.bus_free moment) × (new ≡ record old { state = waited moment c.half }))
    → OnErr result (new ≡ old) → new.state.stopped ≡ c.half.stopped
waiting_stops s c moment old new (Ok bus_free) same (open', e, is) left = ap (λ (v : HalfView). v.state.stopped) is
waiting_stops s c moment old new (Err refusal) same done left = ap (λ (v : HalfView). v.state.stopped) left ∙ ap (λ (h : HalfState). h.stopped) same

-- Ready

-- the chip says that the LUN is ready
pub finds_ready : (s : Setup) (c : ChannelState) (channel lun ready : ℕ) (h : HalfState) (chip : Chip) → ready_refusal lun c.half ≡ None → ready ≡ ready_of lun c.half → h ≡ readied lun c.half → chip ≡ found_ready c.chip lun c.half.now.bus_free
    → Step s c (event.Ready channel lun) (outcome.ReadyFrom ready) (record c { half = h; chip = chip })
finds_ready s c channel lun ready h chip open' e half found =
    step_does s c (event.Ready channel lun) (outcome.ReadyFrom ready) (record c { half = h; chip = chip }) open'
    (inl (ap outcome.ReadyFrom e, ap (λ (x : HalfState). let z : ChannelState = record c { half = x; chip = chip } in z) half ∙ ap (λ (x : Chip). let z : ChannelState = record c { half = readied lun c.half; chip = x } in z) found))

-- Post and Collect

some_held : (host : ℕ) (before behind : List Reply) (r : Reply) → r.host ≡ host → is_empty (filter (is_to host) (before ++ r ∷ behind)) ≡ false
some_held host [] behind r own = let t : (r.host == host) ≡ true = grind (arith, nat_tests) in rw t refl
some_held host (x ∷ before) behind r own = elim (cases_Bool (x.host == host)) [ inl k ↦ rw k refl | inr k ↦ rw k (some_held host before behind r own) ]

module _ (s : Setup) (c : ChannelState) (host channel : ℕ) where
  module _ (known : host < s.hosts) where
    held_is : (r : Reply) → IsOldest host c.half.held r → is_empty (held_for host c.half) ≡ false
    held_is r o = ap (λ (rs : List Reply). is_empty (filter (is_to host) rs)) o.is ∙ some_held host o.before o.behind r o.own

    pub post_full : (r : Reply) → IsOldest host c.half.held r → s.post_cap ≤ not_collected host c → Step s c (event.Post channel host) outcome.PostFull c
    post_full r o h =
        let u = held_is r o in
        step_refused s c (event.Post channel host) outcome.PostFull c (rw (is_above s.hosts host known, u, is_most s.post_cap (not_collected host c) h) refl) refl

    pub post_open : (r : Reply) → IsOldest host c.half.held r → not_collected host c < s.post_cap → refusal s c (event.Post channel host) ≡ None
    post_open r o h = let u = held_is r o in rw (is_above s.hosts host known, u, is_above s.post_cap (not_collected host c) h) refl

    pub nothing_to_collect : length (posted_to host c) ≤ length (collected_by host c) → Step s c (event.Collect channel host) outcome.NothingToCollect c
    nothing_to_collect h =
        step_refused s c (event.Collect channel host) outcome.NothingToCollect c
        (rw (is_above s.hosts host known, is_most (length (posted_to host c)) (length (collected_by host c)) h) refl) refl

    pub collect_open : length (collected_by host c) < length (posted_to host c) → refusal s c (event.Collect channel host) ≡ None
    collect_open h = rw (is_above s.hosts host known, is_above (length (posted_to host c)) (length (collected_by host c)) h) refl
