-- What is legal stays so where all its starts are later, and where a LUN is ready sooner.
use Rattle.std.proofs.Common.{◌≡◌, ℕ, ◌+◌, ◌*◌, ◌≤◌, inl, inr, List, [], ◌∷◌, ◌++◌, length, Some, refl, sym, ap, ◌∙◌, subst, arith, zero, suc}
use Rattle.std.specs.Prelude.{map, slice_get, slice_set}
use Rattle.std.specs.List.{AllByRecursion as All, flat_map}
use Rattle.std.proofs.lemmas.List.{length-map, map-append}
use Rattle.onfi_timing.specs.declared.timing.Timing.{Timing}
use Rattle.onfi_timing.specs.Phases.{Lengths, phase_length, wait_before}
use Rattle.onfi_request.specs.declared.want.Want.{Want}
use Rattle.onfi_group.specs.Words.{Has, Pairs}
use Rattle.onfi_group.specs.Group.{IsGroup, group_spans, lun_of}
use Rattle.onfi_problem.specs.declared.lun_state.LunState.{LunState}
use Rattle.onfi_problem.specs.declared.lun_state.LunState.TheVariants.{Free, Running}
use Rattle.onfi_problem.specs.Problem.{Problem}
use Rattle.onfi_problem.proofs.Perm.{All-weaker, All-append}
use Rattle.onfi_problem.proofs.Wants.{Pairs-weaker}
use Rattle.onfi_schedule.specs.declared.phase.Phase.{Phase}
use Rattle.onfi_schedule.specs.Schedule.{Placed, Schedule, Legal, Apart, Before, InOrder, KeepsBlockOrder, StartsFrom, TakeTurns, all_members, end_of, finish, group_phases, latest, phases, phases_from, phases_left, rest_of, rest_phases}
use Rattle.onfi_schedule.proofs.Earlier.{sooner_legal, sooner_finish}
use Rattle.onfi_schedule.proofs.Sooner.{SoonerLuns, luns_self, set_sooner}
use Rattle.onfi_flight.specs.Times.{LaterLaw, ReadyLaw, ShiftLaw, free_at, later, later_group, later_starts}
use Rattle.onfi_flight.proofs.Lists.{All-map, Has-map_back, Pairs-map, get_map, set_self}
use Rattle.onfi_schedule.proofs.Chains.{from_floor, lower_floor}

abbrev later_phase : ℕ → Phase → Phase
later_phase by x = record x { start = x.start + by }

abbrev pub later_state : ℕ → LunState → LunState
later_state by (Free since) = Free (since + by)
later_state by (Running group next ready) = Running group next (ready + by)

-- the problem with the bus free from then on, and all that its LUNs do later by that much
abbrev pub later_problem : ℕ → ℕ → Problem → Problem
later_problem by moment p = record p { bus_free = moment; luns = map (later_state by) p.luns }

-- The phases

from_later : (by lun : ℕ) (spans : Lengths) (k n : ℕ) (ts : List ℕ) → phases_from lun spans k n (later_starts by ts) ≡ map (later_phase by) (phases_from lun spans k n ts)
from_later by lun spans k n [] = refl
from_later by lun spans k n (t ∷ ts) = ap (λ xs. later_phase by (record { lun = lun; start = t; length = phase_length spans k n }) ∷ xs) (from_later by lun spans k (n + 1) ts)

left_later : (by : ℕ) (timing : Timing) (lun : ℕ) (x : LunState) (ts : List ℕ)
    → phases_left timing lun (later_state by x) (later_starts by ts) ≡ map (later_phase by) (phases_left timing lun x ts)
left_later by timing lun (Free since) ts = refl
left_later by timing lun (Running group next ready) ts = from_later by lun (group_spans timing group) (length group) next ts

rest_later : (by : ℕ) (timing : Timing) (lun : ℕ) (luns : List LunState) (rest : List (List ℕ))
    → rest_phases timing lun (map (later_state by) luns) (map (later_starts by) rest) ≡ map (later_phase by) (rest_phases timing lun luns rest)
rest_later by timing lun [] rest = refl
rest_later by timing lun (x ∷ luns) [] = refl
rest_later by timing lun (x ∷ luns) (ts ∷ rest) =
    let a = left_later by timing lun x ts in
    let b = rest_later by timing (lun + 1) luns rest in
    rw (a, b) (sym (map-append (later_phase by) (phases_left timing lun x ts) (rest_phases timing (lun + 1) luns rest)))

group_later : (by : ℕ) (timing : Timing) (g : Placed) → group_phases timing (later_group by g) ≡ map (later_phase by) (group_phases timing g)
group_later by timing g = from_later by (lun_of g.members) (group_spans timing g.members) (length g.members) 0 g.starts

groups_later : (by : ℕ) (timing : Timing) (groups : List Placed) → flat_map (group_phases timing) (map (later_group by) groups) ≡ map (later_phase by) (flat_map (group_phases timing) groups)
groups_later by timing [] = refl
groups_later by timing (g ∷ groups) =
    let a = group_later by timing g in
    let b = groups_later by timing groups in
    rw (a, b) (sym (map-append (later_phase by) (group_phases timing g) (flat_map (group_phases timing) groups)))

phases_later : (by moment : ℕ) (p : Problem) (s : Schedule) → phases (later_problem by moment p) (later by s) ≡ map (later_phase by) (phases p s)
phases_later by moment p s =
    let a = rest_later by p.timing 0 p.luns s.rest in
    let b = groups_later by p.timing s.groups in
    rw (a, b) (sym (map-append (later_phase by) (rest_phases p.timing 0 p.luns s.rest) (flat_map (group_phases p.timing) s.groups)))

members_later : (by : ℕ) (groups : List Placed) → all_members (map (later_group by) groups) ≡ all_members groups
members_later by [] = refl
members_later by (g ∷ groups) = ap (λ ws. g.members ++ ws) (members_later by groups)

-- What holds of them

later_apart : (by : ℕ) (a b : Phase) → Apart a b → Apart (later_phase by a) (later_phase by b)
later_apart by a b (inl h) = inl (omega arith)
later_apart by a b (inr h) = inr (omega arith)

later_before : (by : ℕ) (xs ys : List Phase) → Before xs ys → Before (map (later_phase by) xs) (map (later_phase by) ys)
later_before by xs ys h =
    All-map (λ x. All (λ y. end_of x ≤ y.start) (map (later_phase by) ys)) (later_phase by) xs
    (All-weaker (λ x. All (λ y. end_of x ≤ y.start) ys) (λ x. All (λ y. end_of (later_phase by x) ≤ y.start) (map (later_phase by) ys))
    (λ x k. All-map (λ y. end_of (later_phase by x) ≤ y.start) (later_phase by) ys (All-weaker (λ y. end_of x ≤ y.start) (λ y. end_of (later_phase by x) ≤ y.start + by) (λ y l. omega arith) ys k)) xs h)

groups_before : (by : ℕ) (timing : Timing) (g h : Placed) → Before (group_phases timing g) (group_phases timing h) → Before (group_phases timing (later_group by g)) (group_phases timing (later_group by h))
groups_before by timing g h b =
    let a = group_later by timing g in
    let c = group_later by timing h in
    rw (a, c) (later_before by (group_phases timing g) (group_phases timing h) b)

later_in_order : (by : ℕ) (spans : Lengths) (k n floor low : ℕ) (ts : List ℕ) → low ≤ floor + by → InOrder spans k n floor ts → InOrder spans k n low (later_starts by ts)
later_in_order by spans k n floor low [] l h = tt
later_in_order by spans k n floor low (t ∷ ts) l h =
    (omega (arith, h.0), later_in_order by spans k (n + 1) (t + phase_length spans k n + wait_before spans k (n + 1)) (t + by + phase_length spans k n + wait_before spans k (n + 1)) ts (omega arith) h.1)

later_from : (by floor low : ℕ) (ts : List ℕ) → low ≤ floor + by → StartsFrom floor ts → StartsFrom low (later_starts by ts)
later_from by floor low [] l h = tt
later_from by floor low (t ∷ ts) l h = omega (arith, h, l)

later_count : (by n : ℕ) (ts : List ℕ) → length ts ≡ n → length (later_starts by ts) ≡ n
later_count by n ts h = length-map ts (λ t. t + by) ∙ h

later_turns : (by : ℕ) (timing : Timing) (g h : Placed) → TakeTurns timing g h → TakeTurns timing (later_group by g) (later_group by h)
later_turns by timing g h turns same =
    elim (turns same) [
      | inl b ↦ inl (groups_before by timing g h b)
      | inr b ↦ inr (groups_before by timing h g b)
    ]

-- what a LUN does was the same, sooner
as_running : (by : ℕ) (x : LunState) (group : List Want) (next ready : ℕ) → Running group next ready ≡ later_state by x
    → (old : ℕ) × (x ≡ Running group next old) × (ready ≡ old + by)
as_running by (Free since) group next ready e = absurd (let z : Running group next ready ≡ Free (since + by) = e in cc)
as_running by (Running g n r) group next ready e = let z : Running group next ready ≡ Running g n (r + by) = e in (r, cc, cc)

as_free : (by : ℕ) (x : LunState) (since : ℕ) → Free since ≡ later_state by x → (old : ℕ) × (x ≡ Free old) × (since ≡ old + by)
as_free by (Free t) since e = let z : Free since ≡ Free (t + by) = e in (t, refl, cc)
as_free by (Running g n r) since e = absurd (let z : Free since ≡ Running g n (r + by) = e in cc)

pub luns_later : (by : ℕ) (luns : List LunState) → SoonerLuns luns (map (later_state by) luns)
luns_later by [] = tt
luns_later by (Free since ∷ luns) = (omega arith, luns_later by luns)
luns_later by (Running group next ready ∷ luns) = ((refl, refl, omega arith), luns_later by luns)

later_none : (by : ℕ) (ts : List ℕ) → ts ≡ [] → later_starts by ts ≡ []
later_none by ts e = rw e refl

module _ (p : Problem) (s : Schedule) (by : ℕ) (legal : Legal p s) where
  -- the starts of a LUN are those that it had, later
  was : (lun : ℕ) (starts : List ℕ) → rest_of (later by s) lun ≡ Some starts → (old : List ℕ) × (rest_of s lun ≡ Some old) × (starts ≡ later_starts by old)
  was lun starts at = get_map (later_starts by) s.rest lun starts at

  keeps_order : (a b : Want) → KeepsBlockOrder p.timing s.groups a b → KeepsBlockOrder p.timing (map (later_group by) s.groups) a b
  keeps_order a b keeps lun block g h in_g in_h has_a has_b =
      let (g', there, is) = Has-map_back (later_group by) s.groups g in_g in
      let (h', there', is') = Has-map_back (later_group by) s.groups h in_h in
      let own : Has g'.members a = subst (λ (x : Placed). Has x.members a) is has_a in
      let own' : Has h'.members b = subst (λ (x : Placed). Has x.members b) is' has_b in
      rw (is, is') (groups_before by p.timing g' h' (keeps lun block g' h' there there' own own'))

  abbrev luns : List LunState
  luns = map (later_state by) p.luns

  was_running : (lun : ℕ) (group : List Want) (next ready : ℕ) → slice_get luns lun ≡ Some (Running group next ready)
      → (old : ℕ) × (slice_get p.luns lun ≡ Some (Running group next old)) × (ready ≡ old + by)
  was_running lun group next ready at =
      let (x, there, is) = get_map (later_state by) p.luns lun (Running group next ready) at in
      let (old, state, ready_is) = as_running by x group next ready is in
      (old, there ∙ ap (λ z. Some z) state, ready_is)

  was_free : (lun since : ℕ) → slice_get luns lun ≡ Some (Free since) → (old : ℕ) × (slice_get p.luns lun ≡ Some (Free old)) × (since ≡ old + by)
  was_free lun since at =
      let (x, there, is) = get_map (later_state by) p.luns lun (Free since) at in
      let (old, state, since_is) = as_free by x since is in
      (old, there ∙ ap (λ z. Some z) state, since_is)

  abbrev RunningFirst : List LunState → Schedule → Placed → Type 0
  RunningFirst xs t g = (group : List Want) (next ready : ℕ) (starts : List ℕ) → slice_get xs (lun_of g.members) ≡ Some (Running group next ready)
      → rest_of t (lun_of g.members) ≡ Some starts
      → Before (phases_left p.timing (lun_of g.members) (Running group next ready) starts) (group_phases p.timing g)

  later_running : (g : Placed) → RunningFirst p.luns s g → RunningFirst luns (later by s) (later_group by g)
  later_running g first group next ready starts at rest =
      let (old, there, is) = was (lun_of g.members) starts rest in
      let (before, there', ready_is) = was_running (lun_of g.members) group next ready at in
      let l = lun_of g.members in
      let a = left_later by p.timing l (Running group next before) old in
      let b = group_later by p.timing g in
      let e : phases_left p.timing l (Running group next ready) (later_starts by old)
      ≡ map (later_phase by) (phases_left p.timing l (Running group next before) old) = a in
      rw (is, e, b) (later_before by (phases_left p.timing l (Running group next before) old) (group_phases p.timing g)
      (first group next before old there' there))

  abbrev Since : List LunState → Placed → Type 0
  Since xs g = (since : ℕ) → slice_get xs (lun_of g.members) ≡ Some (Free since) → StartsFrom since g.starts

  later_since : (g : Placed) → Since p.luns g → Since luns (later_group by g)
  later_since g h since at =
      let (old, there, is) = was_free (lun_of g.members) since at in
      later_from by old since g.starts (omega (arith, is)) (h old there)

  later_is_legal : (moment : ℕ) → All (λ x. moment ≤ x.start + by) (phases p s) → Legal (later_problem by moment p) (later by s)
  later_is_legal moment from = record {
    shape = record {
      luns = length-map s.rest (later_starts by) ∙ legal.shape.luns ∙ sym (length-map p.luns (later_state by));
      rest = λ lun group next ready starts at rest.
          let (old, there, is) = was lun starts rest in
          let (before, there', ready_is) = was_running lun group next ready at in
          let a = legal.shape.rest lun group next before old there' there in
          let b = length-map old (λ t. t + by) in
          rw is (omega (arith, a, b));
      no_rest = λ lun since starts at rest.
          let (old, there, is) = was lun starts rest in
          let (before, there', since_is) = was_free lun since at in
          is ∙ later_none by old (legal.shape.no_rest lun before old there' there);
      starts = All-map (λ g. length g.starts ≡ 2 * length g.members) (later_group by) s.groups (All-weaker (λ g. length g.starts ≡ 2 * length g.members) (λ g. length (later_starts by g.starts) ≡ 2 * length g.members) (λ g h. later_count by (2 * length g.members) g.starts h) s.groups legal.shape.starts);
      wants_only = subst (All (Has p.wants)) (sym (members_later by s.groups)) legal.shape.wants_only;
      once = λ id. let e = members_later by s.groups in rw e (legal.shape.once id);
    };
    from_bus_free = subst (All (λ x. moment ≤ x.start)) (sym (phases_later by moment p s)) (All-map (λ x. moment ≤ x.start) (later_phase by) (phases p s) from);
    no_overlap = subst (Pairs Apart) (sym (phases_later by moment p s)) (Pairs-map (later_phase by) Apart Apart (later_apart by) (phases p s) legal.no_overlap);
    rest_waits = λ lun group next ready starts at rest.
        let (old, there, is) = was lun starts rest in
        let (before, there', ready_is) = was_running lun group next ready at in
        rw is (later_in_order by (group_spans p.timing group) (length group) next before ready old (omega (arith, ready_is))
        (legal.rest_waits lun group next before old there' there));
    waits = All-map (λ g. InOrder (group_spans p.timing g.members) (length g.members) 0 0 g.starts) (later_group by) s.groups
        (All-weaker (λ g. InOrder (group_spans p.timing g.members) (length g.members) 0 0 g.starts) (λ g. InOrder (group_spans p.timing g.members) (length g.members) 0 0 (later_starts by g.starts)) (λ g h. later_in_order by (group_spans p.timing g.members) (length g.members) 0 0 0 g.starts (omega arith) h) s.groups legal.waits);
    running_first = All-map (RunningFirst luns (later by s)) (later_group by) s.groups
        (All-weaker (RunningFirst p.luns s) (λ g. RunningFirst luns (later by s) (later_group by g)) later_running s.groups legal.running_first);
    turns = Pairs-map (later_group by) (TakeTurns p.timing) (TakeTurns p.timing) (later_turns by p.timing) s.groups legal.turns;
    from_since = All-map (Since luns) (later_group by) s.groups
        (All-weaker (Since p.luns) (λ g. Since luns (later_group by g)) later_since s.groups legal.from_since);
    block_order = Pairs-weaker (KeepsBlockOrder p.timing s.groups) (KeepsBlockOrder p.timing (map (later_group by) s.groups)) keeps_order p.wants legal.block_order;
    group = All-map (λ g. IsGroup p.rules g.members) (later_group by) s.groups legal.group;
  }

pub later_legal : LaterLaw
later_legal p s by moment legal from =
    let none : moment ≤ moment = omega arith in
    sooner_legal p.timing p.rules p.wants moment moment p.luns (map (later_state by) p.luns) (later by s) none (luns_later by p.luns)
    (later_is_legal p s by legal moment from)

-- all of it later by that much
pub shifted_legal : (p : Problem) (s : Schedule) (by : ℕ) → Legal p s → Legal (later_problem by (p.bus_free + by) p) (later by s)
shifted_legal p s by legal =
    later_is_legal p s by legal (p.bus_free + by) (All-weaker (λ x. p.bus_free ≤ x.start) (λ x. p.bus_free + by ≤ x.start + by) (λ x h. omega arith)
    (phases p s) legal.from_bus_free)

latest_later : (by low high : ℕ) (ps : List Phase) → low ≤ high + by → latest low (map (later_phase by) ps) ≤ latest high ps + by
latest_later by low high [] h = h
latest_later by low high (x ∷ ps) h = let e = latest_later by low high ps h in grind arith

pub shift_legal : ShiftLaw
shift_legal p s by moment legal low =
    let luns = map (later_state by) p.luns in
    let sooner = luns_later by p.luns in
    let e = phases_later by (p.bus_free + by) p s in
    let none : p.bus_free + by ≤ p.bus_free + by = omega arith in
    let last : finish (later_problem by (p.bus_free + by) p) (later by s) ≤ finish p s + by =
    rw e (latest_later by (p.bus_free + by) p.bus_free (phases p s) none) in
    let least : finish (free_at p moment) (later by s) ≤ finish (later_problem by (p.bus_free + by) p) (later by s) =
    sooner_finish p.timing p.rules p.wants moment (p.bus_free + by) p.luns luns (later by s) low sooner in (
      sooner_legal p.timing p.rules p.wants moment (p.bus_free + by) p.luns luns (later by s) low sooner (shifted_legal p s by legal),
      omega (arith, least, last),
    )

pub ready_legal : ReadyLaw
ready_legal p s lun group next ready moment at low legal =
    let sooner : SoonerLuns (slice_set p.luns lun (Running group next moment)) p.luns =
    subst (SoonerLuns (slice_set p.luns lun (Running group next moment))) (set_self p.luns lun (Running group next ready) at)
    (set_sooner p.luns p.luns lun (Running group next moment) (Running group next ready) (luns_self p.luns) (refl, refl, low)) in
    let none : p.bus_free ≤ p.bus_free = omega arith in (
      sooner_legal p.timing p.rules p.wants p.bus_free p.bus_free (slice_set p.luns lun (Running group next moment)) p.luns s none sooner legal,
      sooner_finish p.timing p.rules p.wants p.bus_free p.bus_free (slice_set p.luns lun (Running group next moment)) p.luns s none sooner,
    )

-- All phases of a legal schedule start no earlier than the first of each group

-- a chain whose first start is no earlier
pub chain_from : (lun : ℕ) (spans : Lengths) (k n floor t : ℕ) (ts : List ℕ) → InOrder spans k n floor ts → ((u : ℕ) (us : List ℕ) → ts ≡ u ∷ us → t ≤ u) → All (λ (x : Phase). t ≤ x.start) (phases_from lun spans k n ts)
chain_from lun spans k n floor t [] o h = tt
chain_from lun spans k n floor t (u ∷ us) o h =
    let low = h u us refl in
    (low, from_floor lun spans k (n + 1) t us (lower_floor spans k (n + 1) t _ us (omega arith) o.1))

pub rest_from : (timing : Timing) (t from : ℕ) (states : List LunState) (rest : List (List ℕ)) → ((l : ℕ) (group : List Want) (next ready : ℕ) (starts : List ℕ) → slice_get states l ≡ Some (Running group next ready) → slice_get rest l ≡ Some starts → InOrder (group_spans timing group) (length group) next ready starts) → ((l u : ℕ) (us : List ℕ) → slice_get rest l ≡ Some (u ∷ us) → t ≤ u) → All (λ (x : Phase). t ≤ x.start) (rest_phases timing from states rest)
rest_from timing t from [] rest o h = tt
rest_from timing t from (state ∷ states) [] o h = tt
rest_from timing t from (Free since ∷ states) (starts ∷ rest) o h = rest_from timing t (from + 1) states rest (λ l. o (suc l)) (λ l. h (suc l))
rest_from timing t from (Running group next ready ∷ states) (starts ∷ rest) o h =
    All-append (λ (x : Phase). t ≤ x.start) (phases_left timing from (Running group next ready) starts) (rest_phases timing (from + 1) states rest)
    (chain_from from (group_spans timing group) (length group) next ready t starts (o zero group next ready starts refl refl) (λ u us e. h zero u us (ap Some e)))
    (rest_from timing t (from + 1) states rest (λ l. o (suc l)) (λ l. h (suc l)))

pub groups_from : (timing : Timing) (t : ℕ) (groups : List Placed) → All (λ g. InOrder (group_spans timing g.members) (length g.members) 0 0 g.starts) groups → ((i u : ℕ) (us : List ℕ) → slice_get (map (λ (g : Placed). g.starts) groups) i ≡ Some (u ∷ us) → t ≤ u) → All (λ (x : Phase). t ≤ x.start) (flat_map (group_phases timing) groups)
groups_from timing t [] o h = tt
groups_from timing t (g ∷ groups) o h =
    All-append (λ (x : Phase). t ≤ x.start) (group_phases timing g) (flat_map (group_phases timing) groups)
    (chain_from (lun_of g.members) (group_spans timing g.members) (length g.members) 0 0 t g.starts o.0 (λ u us e. h zero u us (ap Some e)))
    (groups_from timing t groups o.1 (λ i. h (suc i)))

pub phases_start : (p : Problem) (s : Schedule) (t : ℕ) → Legal p s → ((l u : ℕ) (us : List ℕ) → slice_get s.rest l ≡ Some (u ∷ us) → t ≤ u) → ((i u : ℕ) (us : List ℕ) → slice_get (map (λ (g : Placed). g.starts) s.groups) i ≡ Some (u ∷ us) → t ≤ u) → All (λ (x : Phase). t ≤ x.start) (phases p s)
phases_start p s t legal h k = All-append (λ (x : Phase). t ≤ x.start) (rest_phases p.timing 0 p.luns s.rest) (flat_map (group_phases p.timing) s.groups) (rest_from p.timing t 0 p.luns s.rest legal.rest_waits h) (groups_from p.timing t s.groups legal.waits k)
