-- Time that passes: what it comes to, and what it keeps.
use Rattle.std.proofs.Common.{◌≡◌, ℕ, zero, suc, ◌+◌, ◌-◌, ◌^◌, ◌<◌, ◌≤◌, inl, inr, Bool, true, false, List, [], ◌∷◌, ◌++◌, length, take, Option, Some, None, Result, Ok, Err, IfOk, IfErr, refl, sym, ap, ◌∙◌, subst, arith}
use Rattle.std.specs.Prelude.{IfSome, MatchOption, if◌then◌else◌, OnErr, is_some, map, max, slice_get, slice_set}
use Rattle.std.specs.List.{flat_map}
use Rattle.std.proofs.Math.Seq.{take-nil}
use Rattle.onfi_timing.specs.Phases.{Lengths}
use Rattle.onfi_timing.specs.declared.timing.Timing.{Timing}
use Rattle.onfi_group.specs.Group.{group_spans, lun_of}
use Rattle.onfi_problem.specs.declared.lun_state.LunState.{LunState}
use Rattle.onfi_problem.specs.declared.lun_state.LunState.TheVariants.{Free, Running}
use Rattle.onfi_problem.specs.Problem.{Problem}
use Rattle.onfi_request.specs.declared.want.Want.{Want}
use Rattle.onfi_schedule.specs.Schedule.{Placed, Schedule, group_phases, phases, phases_from, phases_left, rest_phases}
use Rattle.onfi_chip.specs.Chip.{Chip, found_ready}
use Rattle.onfi_core.specs.declared.event.Event.TheVariants as event
use Rattle.onfi_core.specs.declared.half.passing.WaitRefusal.{WaitRefusal}
use Rattle.onfi_core.specs.declared.outcome.Outcome.TheVariants as outcome
use Rattle.onfi_core.specs.declared.setup.Setup.{Setup}
use Rattle.onfi_core.specs.Reaching.{Reaches}
use Rattle.onfi_core.specs.Refusals.{wait_outcome, waited_outcome}
use Rattle.onfi_core.specs.State.{HalfState, ChannelState, Planning, flight_of, quiet}
use Rattle.onfi_flight.specs.Flight.{luns_ready_by, ready_by, wait_lag, waited as flight_waited}
use Rattle.onfi_steady.specs.Waiting.{Books}
use Rattle.onfi_core.specs.Steps.{Step, is_current, is_empty, left_waited, none_left, none_left_by, none_runs, nothing_to_plan, readied, ready_of, ready_refusal, taken_next, unplanned, wait_refusal, waited}
use Rattle.onfi_flight.specs.Times.{later_group, later_starts}
use Rattle.onfi_core.specs.View.{HalfView}
use Rattle.onfi_core.proofs.HeldFor.{is_nil}
use Rattle.onfi_core.proofs.Reaching.{events_reach, step_reaches}
use Rattle.onfi_core.proofs.Refused.{after_waiting, finds_ready, waiting_posts}
use Rattle.onfi_lun.specs.declared.lanes.any_lun.AnyLun.{AnyLun}
use Rattle.onfi_lun.specs.Lanes.{LanesAgree}
use Rattle.onfi_seq.specs.declared.turn.TurnAt.{TurnAt}
use Rattle.onfi_seq.specs.declared.turn.TurnAt.TheVariants as turn
use Rattle.onfi_seq.specs.Driver.{Asks, AsksBelow, IsDriven, PassesTo, WaitsUntil, in_time}
use Rattle.onfi_seq.specs.Sequencer.{Seen, channel_of}
use Rattle.onfi_seq.specs.Turned.{Goes, LetsPass, Plans, PlansAtOnce, Rests, RestsAtOnce, TakesNothing, Turned}
use Rattle.onfi_seq.proofs.Driving.{quiet_is}

-- What time changes

pub in_time_all : (c c' c'' : ChannelState) → c' ≡ in_time c c' → c'' ≡ in_time c' c'' → c'' ≡ in_time c c''
in_time_all c c' c'' a b = b ∙ ap (λ (x : ChannelState). in_time x c'') a

-- The bus waits

-- a wait that isn't refused
abbrev pub WaitedAs : HalfView → HalfView → ℕ → Result ℕ WaitRefusal → Type 0
WaitedAs old new now result = IfOk result (λ bus_free. (wait_refusal now old.state ≡ None) × (bus_free ≡ max old.state.now.bus_free now)
    × (new ≡ record old { state = waited now old.state }))

module _ (old new : HalfView) (chip : Chip) (now : ℕ) (result : Result ℕ WaitRefusal) (done : WaitedAs old new now result)
    (refused : IfErr result (λ refusal. wait_refusal now old.state ≡ Some (wait_outcome refusal))) (unchanged : OnErr result (new ≡ old)) where
  accepted_still : (r : Result ℕ WaitRefusal) → WaitedAs old new now r → OnErr r (new ≡ old) → new.state.accepted ≡ old.state.accepted
  accepted_still (Ok bus_free) (open', e, is) left = ap (λ (v : HalfView). v.state.accepted) is
  accepted_still (Err refusal) was left = ap (λ (v : HalfView). v.state.accepted) left

  pub waiting_step : (channel : ℕ) → Step old.setup (quiet old.state chip) (event.Wait channel now) (waited_outcome result) (quiet new.state chip)
  waiting_step channel =
      let step = after_waiting old.setup (quiet old.state chip) channel now old new result refl done refused unchanged in
      let posted = waiting_posts old.setup (quiet old.state chip) now old new result refl done unchanged in
      subst (λ (c : ChannelState). Step old.setup (quiet old.state chip) (event.Wait channel now) (waited_outcome result) c)
      (quiet_is old.state new.state chip chip (accepted_still result done unchanged) posted) step

  going_still : (r : Result ℕ WaitRefusal) → WaitedAs old new now r
      → OnErr r (new ≡ old) → (new.state.stopped ≡ old.state.stopped) × (new.state.last ≡ old.state.last)
  going_still (Ok bus_free) (open', e, is) left = (ap (λ (v : HalfView). v.state.stopped) is, ap (λ (v : HalfView). v.state.last) is)
  going_still (Err refusal) was left = (ap (λ (v : HalfView). v.state.stopped) left, ap (λ (v : HalfView). v.state.last) left)

  pub driven_waited : (Such : Planning → Type 0) (lanes : List AnyLun) → IsDriven Such old.setup old.lent old.state chip lanes
      → new.lent ≡ None → new.setup ≡ old.setup → IsDriven Such new.setup new.lent new.state chip lanes
  driven_waited Such lanes driven settled setup =
      let same = going_still result done unchanged in
      let last = subst (λ x. IfSome x Such) (sym same.1) (events_reach Such old.setup (quiet old.state chip) driven.reached).1 in
      let reached = step_reaches Such old.setup (quiet old.state chip) (event.Wait 0 now) (waited_outcome result) (quiet new.state chip)
      driven.reached (waiting_step 0) (λ _ _. last) in
      record {
        settled = settled;
        reached = subst (λ (s : Setup). Reaches Such s (quiet new.state chip)) (sym setup) reached;
        lanes_are = λ going. driven.lanes_are (sym same.0 ∙ going);
      }

  waits_by : (r : Result ℕ WaitRefusal) → WaitedAs old new now r
      → IfErr r (λ refusal. wait_refusal now old.state ≡ Some (wait_outcome refusal)) → OnErr r (new ≡ old)
      → ((channel : ℕ) → Step old.setup (quiet old.state chip) (event.Wait channel now) (waited_outcome r) (quiet new.state chip))
      → old.state.now.bus_free < now → WaitsUntil now old.setup (quiet old.state chip) (quiet new.state chip)
  waits_by (Ok bus_free) (open', e, is) why left step before =
      let at : bus_free ≡ now = omega (arith, e, before) in
      let Waits : ℕ → ℕ → Type 0 = λ channel n. Step old.setup (quiet old.state chip) (event.Wait channel now) (outcome.Waited n) (quiet new.state chip) in
      inl (before, λ channel. subst (Waits channel) at (step channel))
  waits_by (Err refusal) was why left step before = inr (inr (wait_outcome refusal, why, ap (λ (v : HalfView). quiet v.state chip) left))

  pub waits_until : old.state.now.bus_free < now → WaitsUntil now old.setup (quiet old.state chip) (quiet new.state chip)
  waits_until before = waits_by result done refused unchanged waiting_step before

-- Time neither adds a phase nor takes one away

left_back : (by : ℕ) (timing : Timing) (lun : ℕ) (x : LunState) (ts : List ℕ) → phases_left timing lun x (later_starts by ts) ≡ [] → phases_left timing lun x ts ≡ []
left_back by timing lun (Free since) ts none = refl
left_back by timing lun (Running group next ready) [] none = refl
left_back by timing lun (Running group next ready) (t ∷ ts) none = cc

none_both : {A : Type 0} (xs ys : List A) → xs ++ ys ≡ [] → (xs ≡ []) × (ys ≡ [])
none_both [] ys none = (refl, none)
none_both (x ∷ xs) ys none = cc

rest_back : (by : ℕ) (timing : Timing) (lun : ℕ) (luns : List LunState) (rest : List (List ℕ))
    → rest_phases timing lun luns (map (later_starts by) rest) ≡ [] → rest_phases timing lun luns rest ≡ []
rest_back by timing lun [] rest none = refl
rest_back by timing lun (x ∷ luns) [] none = refl
rest_back by timing lun (x ∷ luns) (ts ∷ rest) none =
    let both = none_both (phases_left timing lun x (later_starts by ts)) _ none in
    let a = left_back by timing lun x ts both.0 in
    let b = rest_back by timing (lun + 1) luns rest both.1 in
    rw (a, b) refl

group_back : (by : ℕ) (timing : Timing) (g : Placed) → group_phases timing (later_group by g) ≡ [] → group_phases timing g ≡ []
group_back by timing g none = from_back (group_spans timing g.members) (length g.members) g.starts none
  where
    from_back : (lengths : Lengths) (k : ℕ) (ts : List ℕ) → phases_from (lun_of g.members) lengths k 0 (later_starts by ts) ≡ [] → phases_from (lun_of g.members) lengths k 0 ts ≡ []
    from_back lengths k [] none = refl
    from_back lengths k (t ∷ ts) none = cc

groups_back : (by : ℕ) (timing : Timing) (groups : List Placed) → flat_map (group_phases timing) (map (later_group by) groups) ≡ [] → flat_map (group_phases timing) groups ≡ []
groups_back by timing [] none = refl
groups_back by timing (g ∷ groups) none =
    let both = none_both (group_phases timing (later_group by g)) _ none in
    let a = group_back by timing g both.0 in
    let b = groups_back by timing groups both.1 in
    rw (a, b) refl

nil_is : {A : Type 0} (xs : List A) → xs ≡ [] → is_empty xs ≡ true
nil_is xs none = ap is_empty none

plan_waited : (moment : ℕ) (h : HalfState) → is_empty (phases (waited moment h).now (flight_waited moment (flight_of h)).left) ≡ true → is_empty (phases h.now h.left) ≡ true
plan_waited moment h over =
    let by = wait_lag moment (flight_of h) in
    let both = none_both (rest_phases h.now.timing 0 h.now.luns (map (later_starts by) h.left.rest)) _ (is_nil _ over) in
    let a = rest_back by h.now.timing 0 h.now.luns h.left.rest both.0 in
    let b = groups_back by h.now.timing h.left.groups both.1 in
    nil_is (phases h.now h.left) (rw (a, b) refl)

pub waited_none : (moment : ℕ) (h : HalfState) → none_left (waited moment h) ≡ true → none_left h ≡ true
waited_none moment h over = by h.books over
  where
    by : (books : Option Books) → none_left_by books (waited moment h).now (left_waited books moment (flight_of h)) ≡ true → none_left_by books h.now h.left ≡ true
    by None e = plan_waited moment h e
    by (Some books) e = e

state_ready : (moment : ℕ) (timing : Timing) (lun : ℕ) (x : LunState) (ts : List ℕ) → phases_left timing lun (ready_by moment x) ts ≡ phases_left timing lun x ts
state_ready moment timing lun (Free since) ts = refl
state_ready moment timing lun (Running group next ready) ts = refl

set_ready : (moment : ℕ) (timing : Timing) (first lun : ℕ) (luns : List LunState) (rest : List (List ℕ)) (x : LunState) → slice_get luns lun ≡ Some x
    → rest_phases timing first (slice_set luns lun (ready_by moment x)) rest ≡ rest_phases timing first luns rest
set_ready moment timing first lun [] rest x there = refl
set_ready moment timing first zero (y ∷ luns) [] x there = refl
set_ready moment timing first zero (y ∷ luns) (ts ∷ rest) x there =
    let same : y ≡ x = cc in
    ap (λ ps. ps ++ rest_phases timing (first + 1) luns rest) (state_ready moment timing first x ts ∙ ap (λ (z : LunState). phases_left timing first z ts) (sym same))
set_ready moment timing first (suc lun) (y ∷ luns) [] x there = refl
set_ready moment timing first (suc lun) (y ∷ luns) (ts ∷ rest) x there =
    ap (λ ps. phases_left timing first y ts ++ ps) (set_ready moment timing (first + 1) lun luns rest x there)

luns_ready : (moment : ℕ) (timing : Timing) (lun : ℕ) (luns : List LunState) (rest : List (List ℕ)) (o : Option LunState) → slice_get luns lun ≡ o
    → rest_phases timing 0 (luns_ready_by moment lun o luns) rest ≡ rest_phases timing 0 luns rest
luns_ready moment timing lun luns rest None there = refl
luns_ready moment timing lun luns rest (Some x) there = set_ready moment timing 0 lun luns rest x there

set_runs : (moment lun : ℕ) (luns : List LunState) (x : LunState) → slice_get luns lun ≡ Some x → none_runs (slice_set luns lun (ready_by moment x)) ≡ none_runs luns
set_runs moment lun [] x there = refl
set_runs moment zero (Free since ∷ luns) x there = let same : Free since ≡ x = cc in ap (λ (z : LunState). none_runs (ready_by moment z ∷ luns)) (sym same)
set_runs moment zero (Running g n r ∷ luns) x there = let same : Running g n r ≡ x = cc in ap (λ (z : LunState). none_runs (ready_by moment z ∷ luns)) (sym same)
set_runs moment (suc lun) (Free since ∷ luns) x there = set_runs moment lun luns x there
set_runs moment (suc lun) (Running g n r ∷ luns) x there = refl

ready_runs : (moment lun : ℕ) (luns : List LunState) (o : Option LunState) → slice_get luns lun ≡ o → none_runs (luns_ready_by moment lun o luns) ≡ none_runs luns
ready_runs moment lun luns None there = refl
ready_runs moment lun luns (Some x) there = set_runs moment lun luns x there

pub readied_none : (lun : ℕ) (h : HalfState) → none_left (readied lun h) ≡ true → none_left h ≡ true
readied_none lun h over = by h.books over
  where
    by : (books : Option Books) → none_left_by books (readied lun h).now h.left ≡ true → none_left_by books h.now h.left ≡ true
    by None e =
        let same = luns_ready h.now.bus_free h.now.timing lun h.now.luns h.left.rest (slice_get h.now.luns lun) refl in
        sym (ap (λ ps. is_empty (ps ++ flat_map (group_phases h.now.timing) h.left.groups)) same) ∙ e
    by (Some books) e =
        sym (ap (λ b. if is_empty h.now.wants then b else false) (ready_runs h.now.bus_free lun h.now.luns (slice_get h.now.luns lun) refl)) ∙ e

module _ (old new : HalfView) (now : ℕ) where
  pub waited_luns : (r : Result ℕ WaitRefusal) → WaitedAs old new now r → OnErr r (new ≡ old) → new.state.now.luns ≡ old.state.now.luns
  waited_luns (Ok bus_free) (open', e, is) left = ap (λ (v : HalfView). v.state.now.luns) is
  waited_luns (Err refusal) was left = ap (λ (v : HalfView). v.state.now.luns) left

  pub waited_phases : (r : Result ℕ WaitRefusal) → WaitedAs old new now r → OnErr r (new ≡ old) → none_left new.state ≡ true → none_left old.state ≡ true
  waited_phases (Ok bus_free) (open', e, is) left over = waited_none now old.state (sym (ap (λ (v : HalfView). none_left v.state) is) ∙ over)
  waited_phases (Err refusal) was left over = sym (ap (λ (v : HalfView). none_left v.state) left) ∙ over

-- A LUN is asked

pub none_refused : {R A : Type 0} (B : R → Type 0) (r : Option R) → MatchOption r A B → is_some r ≡ false → A
none_refused B None a none = a
none_refused B (Some x) b none = cc

module _ (old new : HalfView) (chip chip' : Chip) (lun : ℕ) (open' : ready_refusal lun old.state ≡ None)
    (is : new ≡ record old { state = readied lun old.state }) (found : chip' ≡ found_ready chip lun old.state.now.bus_free) where
  pub ready_step : (channel : ℕ)
      → Step old.setup (quiet old.state chip) (event.Ready channel lun) (outcome.ReadyFrom (ready_of lun old.state)) (quiet new.state chip')
  ready_step channel =
      let half = ap (λ (v : HalfView). v.state) is in
      let step = finds_ready old.setup (quiet old.state chip) channel lun (ready_of lun old.state) new.state chip' open' refl half found in
      subst (λ (c : ChannelState). Step old.setup (quiet old.state chip) (event.Ready channel lun) (outcome.ReadyFrom (ready_of lun old.state)) c)
      (quiet_is old.state new.state chip chip' (ap (λ (h : HalfState). h.accepted) half) (ap (λ (h : HalfState). h.posted) half)) step

  pub driven_readied : (Such : Planning → Type 0) (lanes lanes' : List AnyLun) → IsDriven Such old.setup old.lent old.state chip lanes → LanesAgree chip' lanes'
      → IsDriven Such new.setup new.lent new.state chip' lanes'
  driven_readied Such lanes lanes' driven agree =
      let last = subst (λ (v : HalfView). IfSome v.state.last Such) (sym is) (events_reach Such old.setup (quiet old.state chip) driven.reached).1 in
      let reached = step_reaches Such old.setup (quiet old.state chip) (event.Ready 0 lun) (outcome.ReadyFrom (ready_of lun old.state))
      (quiet new.state chip') driven.reached (ready_step 0) (λ _ _. last) in
      record {
        settled = ap (λ (v : HalfView). v.lent) is ∙ driven.settled;
        reached = subst (λ (s : Setup). Reaches Such s (quiet new.state chip')) (sym (ap (λ (v : HalfView). v.setup) is)) reached;
        lanes_are = λ going. agree;
      }

-- LUNs are asked, one after another

pub asks_more : (s s' : Setup) (lun : ℕ) (c mid c' : ChannelState) → s' ≡ s → AsksBelow s lun c mid → Asks s' lun mid c'
    → AsksBelow s (lun + 1) c c'
asks_more s s' lun c mid c' same below here =
    let next : suc lun ≡ lun + 1 = omega arith in
    subst (λ n. AsksBelow s n c c') next (mid, below, subst (λ (x : Setup). Asks x lun mid c') same here)

-- Time passes

pub passes_waited : (now : ℕ) (s : Setup) (c mid : ChannelState) → now < 2 ^ 62 → WaitsUntil now s c mid → mid.half.now.bus_free < now → mid ≡ in_time c mid
    → PassesTo now s c mid
passes_waited now s c mid known waited before kept = inr (record { known = known; mid = mid; waited = waited; asked = inr (before, refl); kept = kept })

pub passes_asked : (now : ℕ) (s s' : Setup) (c mid c' : ChannelState) → now < 2 ^ 62 → WaitsUntil now s c mid → now ≤ mid.half.now.bus_free → s' ≡ s
    → AsksBelow s' s'.geometry.lun_count mid c' → mid ≡ in_time c mid → c' ≡ in_time mid c' → PassesTo now s c c'
passes_asked now s s' c mid c' known waited by_then same asked kept still = inr (record {
  known = known;
  mid = mid;
  waited = waited;
  asked = inl (by_then, subst (λ (x : Setup). AsksBelow x x.geometry.lun_count mid c') same asked);
  kept = in_time_all c mid c' kept still;
})

-- Why no item is accepted, once time has passed

takes_still : (q : Seen) (p : Problem) (left : Schedule) (outdated : Bool) (chip : Chip) → TakesNothing q
    → TakesNothing (record q.0 { half = record q.0.half { now = p; left = left; outdated = outdated } }, chip)
takes_still q p left outdated chip t = record {
  before = record { posts = t.before.posts; going = t.before.going };
  items = t.items;
}

module _ (q q' : Seen) (after : q' ≡ (record q.0 { half = q'.0.half }, q'.1)) (kept : channel_of q' ≡ in_time (channel_of q) (channel_of q')) where
  half_is : q'.0.half ≡ (in_time (channel_of q) (channel_of q')).half
  half_is = ap (λ (c : ChannelState). c.half) kept

  pub takes_nothing : TakesNothing q → TakesNothing q'
  takes_nothing t =
      let k = (in_time (channel_of q) (channel_of q')).half in
      let is : q' ≡ (record q.0 { half = k }, q'.1) = after ∙ ap (λ (h : HalfState). let x : Seen = (record q.0 { half = h }, q'.1) in x) half_is in
      subst TakesNothing (sym is) (takes_still q k.now k.left k.outdated q'.1 t)

-- nothing is to be planned before time passes where neither a phase is left after it nor an item is to be planned

current_is : (outdated over : Bool) → over ≡ true → (if outdated then over else true) ≡ true
current_is true over is = is
current_is false over is = refl

taken_none : (s : Setup) (h : HalfState) → taken_next s h ≡ [] → is_current h ≡ true → nothing_to_plan s h ≡ true
taken_none s h none current = ap (λ (ws : List Want). if is_empty ws then is_current h else false) none ∙ current

pub nothing_before : (s : Setup) (c c' : ChannelState) → c' ≡ in_time c c' → none_left c.half ≡ true → taken_next s c'.half ≡ [] → nothing_to_plan s c.half ≡ true
nothing_before s c c' kept over none =
    let taken : taken_next s c.half ≡ [] = sym (ap (λ (x : ChannelState). taken_next s x.half) kept) ∙ none in
    taken_none s c.half taken (current_is c.half.outdated (none_left c.half) over)

-- what a planning takes stays so
pub still_nothing : (s : Setup) (c c' : ChannelState) → c' ≡ in_time c c' → taken_next s c.half ≡ [] → taken_next s c'.half ≡ []
still_nothing s c c' kept none = ap (λ (x : ChannelState). taken_next s x.half) kept ∙ none

-- What a turn comes to that takes no item in

none_next : (s : Setup) (h : HalfState) → unplanned s h ≡ [] → taken_next s h ≡ []
none_next s h none = ap (take (h.batch - length h.now.wants)) none ∙ take-nil (h.batch - length h.now.wants)

rests_here : (now : ℕ) (q mid : Seen) (answer : TurnAt) (q' : Seen) → RestsAtOnce q mid → Rests mid → Goes now mid answer q' → Goes now q answer q'
rests_here now q mid answer q' still rests goes =
    subst (λ (x : Seen). Goes now x answer q') (still rests.phases (none_next mid.0.setup mid.0.half rests.items)) goes

pub turned_then : (now : ℕ) (q mid : Seen) (answer : TurnAt) (q' : Seen) → LetsPass now q mid → RestsAtOnce q mid → Goes now mid answer q'
    → PlansAtOnce q mid answer q' → Turned now q answer q'
turned_then now q mid turn.Posted q' passes still goes planned = absurd goes
turned_then now q mid (turn.Stopped cause) q' passes still goes planned = inr (mid, passes, goes, planned)
turned_then now q mid turn.Accepted q' passes still goes planned = absurd goes
turned_then now q mid turn.PostFull q' passes still goes planned = rests_here now q mid turn.PostFull q' still goes.0 goes
turned_then now q mid turn.Idle q' passes still goes planned = rests_here now q mid turn.Idle q' still goes.0 goes
turned_then now q mid answer q' passes still goes planned = (mid, passes, goes, planned)

-- a planning is what a turn does that takes no item in
pub plans_go : (now : ℕ) (q : Seen) (answer : TurnAt) (q' : Seen) → Plans q answer q' → Goes now q answer q'
plans_go now q (turn.Stopped cause) q' plans = inl plans
plans_go now q turn.Planned q' plans = plans
plans_go now q (turn.Over opened) q' plans = plans
plans_go now q turn.Memory q' plans = inl plans
plans_go now q _ q' plans = absurd plans
