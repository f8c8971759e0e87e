-- A legal schedule of what a move leaves gives one with the move's phase in front.
use Rattle.std.proofs.Common.{◌≡◌, ℕ, suc, ◌+◌, ◌*◌, ◌≤◌, ◌<◌, inl, inr, ⊎_elim, Bool, true, List, [], ◌∷◌, ◌++◌, length, Some, refl, sym, ap, ◌∙◌, subst, arith, append_assoc}
use Rattle.std.specs.Prelude.{slice_get, slice_set, max, not, if◌then◌else◌}
use Rattle.std.specs.List.{AllByRecursion as All, flat_map, filter}
use Rattle.std.proofs.lemmas.Bool.{cases_Bool, cases_lt, false≢true, eq-eqb}
use Rattle.std.proofs.lemmas.Option.{get_or_from_slice_get}
use Rattle.onfi_request.specs.declared.want.Want.{Want}
use Rattle.onfi_problem.specs.declared.lun_state.LunState.{LunState}
use Rattle.onfi_problem.specs.declared.lun_state.LunState.TheVariants.{Free, Running}
use Rattle.onfi_problem.specs.Moves.{Move, Next, Start, IsMove, earliest, lun_after, ran, ran_with, placed, without}
use Rattle.onfi_group.specs.Words.{Has, Pairs}
use Rattle.onfi_problem.specs.Problem.{Problem, IsProblem, has_id}
use Rattle.onfi_group.specs.Group.{group_spans, lun_of, IsStartable, IsFirst, on_block, is_member}
use Rattle.onfi_timing.specs.Phases.{phase_length, wait_before}
use Rattle.onfi_schedule.specs.Schedule.{Placed, Schedule, Phase, end_of, phases_from, phases_left, rest_phases, group_phases, phases, latest, finish, InOrder, Apart, Before, StartsFrom, KeepsBlockOrder, all_members, Legal, starts_at, with_first}
use Rattle.onfi_problem.proofs.Perm.{Perm, turned, same, trans, back, on_left, to_front, between, All-perm, Pairs-perm, All-has, All-each, All-append, All-back, All-weaker, All-flat_map, Has-flat_map_in}
use Rattle.onfi_problem.proofs.Places.{get_set_same, set_back, length_set, same_some, get_within, within_get}
use Rattle.onfi_schedule.proofs.Rests.{At, set_state, set_at, rest_changed}
use Rattle.onfi_schedule.proofs.LegalIs.{fits_of, waits_of, left_from, since_from}
use Rattle.onfi_schedule.specs.Conditions.{StateFits, StateWaits, StateSince, LeftFirst, FromSince}
use Rattle.onfi_problem.proofs.LunAfter.{lun_after_running, lun_after_free}
use Rattle.onfi_schedule.proofs.First.{left_after, starts_from, starts_lower, Apart-sym}
use Rattle.onfi_problem.proofs.Wants.{first_has, total-append, Rising, Has-filter}
use Rattle.onfi_problem.proofs.Totals.{startable_total}
use Rattle.onfi_schedule.proofs.Least.{latest-perm, latest-behind}

all_apart : (x : Phase) (ys : List Phase) → All (λ y. end_of x ≤ y.start) ys → All (Apart x) ys
all_apart x ys h = All-weaker _ _ (λ y k. inl k) ys h

-- in both cases: the LUN l, with its state before, does phase n of g at t
module _ (p : Problem) (ws : List Want) (s' : Schedule) (l : ℕ) (g : List Want) (n t : ℕ) (x : LunState) (new : List ℕ) (some : 1 ≤ length g) (unfinished : n < 2 * length g) (at : slice_get p.luns l ≡ Some x) (lg : Legal (ran_with p l g n t ws) s') where
  abbrev c : ℕ
  c = t + phase_length (group_spans p.timing g) (length g) n

  abbrev ts : List ℕ
  ts = starts_at s' l

  rest_there : slice_get s'.rest l ≡ Some ts
  rest_there =
      let w = within_get p.luns l x at in
      let e : length (slice_set p.luns l (lun_after p.timing g n c)) ≡ length p.luns = length_set p.luns l _ in
      let e' = lg.shape.luns in
      let y = get_within s'.rest l (omega arith) in
      y.1 ∙ ap Some (sym (get_or_from_slice_get s'.rest l y.0 [] y.1))

  state_there : slice_get (slice_set p.luns l (lun_after p.timing g n c)) l ≡ Some (lun_after p.timing g n c)
  state_there = get_set_same p.luns l x (lun_after p.timing g n c) at

  count : n + suc (length ts) ≡ 2 * length g
  count =
      elim (cases_lt (n + 1) (2 * length g)) [
        | inl a ↦ (
            let q = lg.shape.rest l g (n + 1) _ ts (state_there ∙ ap Some (lun_after_running p.timing g n c a)) rest_there in
            omega arith)
        | inr a ↦ (
            let q = lg.shape.no_rest l c ts (state_there ∙ ap Some (lun_after_free p.timing g n c a)) rest_there in
            let z : length ts ≡ 0 = ap length q in
            omega arith)
      ]

  order : InOrder (group_spans p.timing g) (length g) (n + 1) (c + wait_before (group_spans p.timing g) (length g) (n + 1)) ts
  order =
      elim (cases_lt (n + 1) (2 * length g)) [
        | inl a ↦ lg.rest_waits l g (n + 1) _ ts (state_there ∙ ap Some (lun_after_running p.timing g n c a)) rest_there
        | inr a ↦ (let q = lg.shape.no_rest l c ts (state_there ∙ ap Some (lun_after_free p.timing g n c a)) rest_there in rw q tt)
      ]

  -- what holds where the phase is over, and at LUN l before it, holds before it
  back_at : (P : LunState → List ℕ → Type 0) (j : ℕ) → (l ≡ j → P x new) → At P (slice_set p.luns l (lun_after p.timing g n c)) s'.rest j → At P p.luns (slice_set s'.rest l new) j
  back_at P j own other = subst (λ luns. At P luns (slice_set s'.rest l new) j) (set_back p.luns l _ x at) (set_at P (slice_set p.luns l (lun_after p.timing g n c)) s'.rest l (lun_after p.timing g n c) x ts new state_there rest_there j own other)

  abbrev first : Phase
  first = record { lun = l; start = t; length = phase_length (group_spans p.timing g) (length g) n }

  abbrev tail : List Phase
  tail = phases_from l (group_spans p.timing g) (length g) (n + 1) ts

  -- each other group of the LUN comes after the phase and the rest of its group
  tail_first : (h : Placed) → Has s'.groups h → l ≡ lun_of h.members → Before (first ∷ tail) (group_phases p.timing h)
  tail_first h k e =
      let bus = All-has _ s'.groups h (All-flat_map _ (group_phases p.timing) s'.groups (All-back (λ y. c ≤ y.start) (rest_phases p.timing 0 (slice_set p.luns l (lun_after p.timing g n c)) s'.rest) _ lg.from_bus_free)) k in (
        bus,
        elim (cases_lt (n + 1) (2 * length g)) [
          | inl a ↦ (
              let q = All-has _ s'.groups h lg.running_first k g (n + 1) (c + wait_before (group_spans p.timing g) (length g) (n + 1)) ts
              (subst (λ i. slice_get (slice_set p.luns l (lun_after p.timing g n c)) i ≡ Some (Running g (n + 1) (c + wait_before (group_spans p.timing g) (length g) (n + 1)))) e (state_there ∙ ap Some (lun_after_running p.timing g n c a)))
              (subst (λ i. slice_get s'.rest i ≡ Some ts) e rest_there) in
              subst (λ i. Before (phases_from i (group_spans p.timing g) (length g) (n + 1) ts) (group_phases p.timing h)) (sym e) q)
          | inr a ↦ (let q = lg.shape.no_rest l c ts (state_there ∙ ap Some (lun_after_free p.timing g n c a)) rest_there in rw q tt)
        ],
      )

  back_fits : StateFits x new → (j : ℕ) → At StateFits p.luns (slice_set s'.rest l new) j
  back_fits own j = back_at StateFits j (λ e. own) (fits_of (ran_with p l g n t ws) s' lg.shape j)

  back_waits : StateWaits p.timing x new → (j : ℕ) → At (StateWaits p.timing) p.luns (slice_set s'.rest l new) j
  back_waits own j = back_at (StateWaits p.timing) j (λ e. own) (waits_of (ran_with p l g n t ws) s' lg j)

  back_left : (h : Placed) → Has s'.groups h → (Before (first ∷ tail) (group_phases p.timing h) → Before (phases_left p.timing l x new) (group_phases p.timing h)) → LeftFirst p.timing p.luns (slice_set s'.rest l new) h
  back_left h k own =
      let Left : ℕ → LunState → List ℕ → Type 0 = λ i z vs. Before (phases_left p.timing i z vs) (group_phases p.timing h) in
      back_at (Left (lun_of h.members)) (lun_of h.members) (λ e. subst (λ i. Left i x new) e (own (tail_first h k e))) (left_from p.timing _ s'.rest h (All-has _ s'.groups h lg.running_first k))

  back_since : (h : Placed) → Has s'.groups h → (StartsFrom c h.starts → StateSince x h.starts) → FromSince p.luns h
  back_since h k own =
      let starts : l ≡ lun_of h.members → StartsFrom c h.starts = λ e. starts_from c (lun_of h.members) (group_spans p.timing h.members) (length h.members) 0 h.starts (tail_first h k e).0 in
      let there = since_from (slice_set p.luns l (lun_after p.timing g n c)) h (All-has _ s'.groups h lg.from_since k) in
      subst (λ luns. FromSince luns h) (set_back p.luns l _ x at) (set_state (λ z. StateSince z h.starts) _ l (lun_after p.timing g n c) x state_there (lun_of h.members) (λ e. own (starts e)) there)

  -- all that is left, with the phase in front
  with_tail : (vs : List ℕ) → Perm (tail ++ rest_phases p.timing 0 p.luns (slice_set s'.rest l vs)) (phases_left p.timing l x vs ++ rest_phases p.timing 0 (slice_set p.luns l (lun_after p.timing g n c)) s'.rest)
  with_tail vs =
      let y = lun_after p.timing g n c in
      let q : Perm (tail ++ phases_left p.timing l x vs) (phases_left p.timing l x vs ++ phases_left p.timing l y ts) = rw (left_after p.timing l g n c ts count) (turned tail (phases_left p.timing l x vs)) in
      let r = rest_changed p.timing 0 l l p.luns (slice_set s'.rest l vs) x y vs ts tail (phases_left p.timing l x vs) (omega arith) at (get_set_same s'.rest l ts vs rest_there) q in
      subst (λ z. Perm (tail ++ rest_phases p.timing 0 p.luns (slice_set s'.rest l vs)) (phases_left p.timing l x vs ++ rest_phases p.timing 0 (slice_set p.luns l y) z)) (set_back s'.rest l vs ts rest_there) r

  bus_first : p.bus_free ≤ t → (ps : List Phase) → Perm ps (first ∷ phases (ran_with p l g n t ws) s') → All (λ y. p.bus_free ≤ y.start) ps
  bus_first le ps perm = All-perm _ (back perm) (le, All-weaker _ _ (λ y q. omega arith) (phases (ran_with p l g n t ws) s') lg.from_bus_free)

  apart_first : (ps : List Phase) → Perm ps (first ∷ phases (ran_with p l g n t ws) s') → Pairs Apart ps
  apart_first ps perm = Pairs-perm Apart Apart-sym (back perm) (all_apart first _ lg.from_bus_free, lg.no_overlap)

  same_finish : p.bus_free ≤ t → (ps : List Phase) → Perm ps (first ∷ phases (ran_with p l g n t ws) s') → latest p.bus_free ps ≡ finish (ran_with p l g n t ws) s'
  same_finish le ps perm = latest-perm p.bus_free perm ∙ latest-behind p.bus_free c (phases (ran_with p l g n t ws) s') (omega arith)

-- a running group's next phase in front
module _ (p : Problem) (s' : Schedule) (ip : IsProblem p) (l : ℕ) (g : List Want) (n r t : ℕ) (at : slice_get p.luns l ≡ Some (Running g n r)) (late : max p.bus_free r ≤ t) (lg : Legal (ran p l g n t) s') where
  abbrev some : 1 ≤ length g
  some = (ip.running l g n r at).group.some

  abbrev unfinished : n < 2 * length g
  unfinished = (ip.running l g n r at).unfinished

  abbrev us : List ℕ
  us = t ∷ starts_at s' l

  abbrev back_next : Schedule
  back_next = with_first (Next l) t s'

  next_perm : Perm (phases p back_next) (first p p.wants s' l g n t (Running g n r) us some unfinished at lg ∷ phases (ran p l g n t) s')
  next_perm =
      let y = lun_after p.timing g n (t + phase_length (group_spans p.timing g) (length g) n) in
      let f = first p p.wants s' l g n t (Running g n r) us some unfinished at lg in
      let rest = rest_there p p.wants s' l g n t (Running g n r) us some unfinished at lg in
      let k = count p p.wants s' l g n t (Running g n r) us some unfinished at lg in
      let q : Perm (phases_left p.timing l (Running g n r) us) (f ∷ phases_left p.timing l y (starts_at s' l)) = rw (left_after p.timing l g n (t + phase_length (group_spans p.timing g) (length g) n) (starts_at s' l) k) (same _) in
      let z = rest_changed p.timing 0 l l p.luns (slice_set s'.rest l us) (Running g n r) y us (starts_at s' l) [] (f ∷ []) (omega arith) at (get_set_same s'.rest l (starts_at s' l) us rest) q in
      let z' = subst (λ v. Perm (rest_phases p.timing 0 p.luns (slice_set s'.rest l us)) (f ∷ rest_phases p.timing 0 (slice_set p.luns l y) v)) (set_back s'.rest l us (starts_at s' l) rest) z in
      on_left (flat_map (group_phases p.timing) s'.groups) z'

  next_back : Legal p back_next
  next_back =
      let x = Running g n r in
      let ws = p.wants in
      let fits = back_fits p ws s' l g n t x us some unfinished at lg (count p ws s' l g n t x us some unfinished at lg) in
      record {
        shape = record {
          luns = length_set s'.rest l us ∙ lg.shape.luns ∙ length_set p.luns l _;
          rest = λ j g' n' r' vs. fits j (Running g' n' r') vs;
          no_rest = λ j since vs. fits j (Free since) vs;
          starts = lg.shape.starts;
          wants_only = lg.shape.wants_only;
          once = lg.shape.once;
        };
        from_bus_free = bus_first p ws s' l g n t x us some unfinished at lg (omega arith) (phases p back_next) next_perm;
        no_overlap = apart_first p ws s' l g n t x us some unfinished at lg (phases p back_next) next_perm;
        rest_waits = λ j g' n' r' vs. back_waits p ws s' l g n t x us some unfinished at lg (omega arith, order p ws s' l g n t x us some unfinished at lg) j (Running g' n' r') vs;
        waits = lg.waits;
        running_first = All-each _ s'.groups (λ h here g' n' r' vs. back_left p ws s' l g n t x us some unfinished at lg h here (λ q. q) (Running g' n' r') vs);
        turns = lg.turns;
        from_since = All-each _ s'.groups (λ h here since. back_since p ws s' l g n t x us some unfinished at lg h here (λ q. tt) (Free since));
        block_order = lg.block_order;
        group = lg.group;
      }

  next_same : finish p back_next ≡ finish (ran p l g n t) s'
  next_same = same_finish p p.wants s' l g n t (Running g n r) us some unfinished at lg (omega arith) (phases p back_next) next_perm

pub Has-filtered : {A : Type 0} (test : A → Bool) (xs : List A) (x : A) → Has (filter test xs) x → Has xs x
Has-filtered test [] x h = absurd h
Has-filtered test (y ∷ ys) x h = elim (cases_Bool (test y)) [
  | inl k ↦ (let q : Has (y ∷ filter test ys) x = rw k at h in ⊎_elim (λ e. inl e) (λ i. inr (Has-filtered test ys x i)) q)
  | inr k ↦ (let q : Has (filter test ys) x = rw k at h in inr (Has-filtered test ys x q))
]

-- related where both pass
Pairs-unfiltered : {A : Type 0} (R : A → A → Type 0) (test : A → Bool) (xs : List A) → Pairs R (filter test xs) → Pairs (λ a b. test a ≡ true → test b ≡ true → R a b) xs
Pairs-unfiltered R test [] h = tt
Pairs-unfiltered R test (y ∷ ys) h = elim (cases_Bool (test y)) [
  | inl k ↦ (let q : Pairs R (y ∷ filter test ys) = rw k at h in (All-each _ ys (λ z i a b. All-has (R y) (filter test ys) z q.0 (Has-filter test ys z i b)), Pairs-unfiltered R test ys q.1))
  | inr k ↦ (let q : Pairs R (filter test ys) = rw k at h in (All-each _ ys (λ z i a b. absurd (false≢true (sym k ∙ a))), Pairs-unfiltered R test ys q))
]

Pairs-both : {A : Type 0} (P Q R : A → A → Type 0) (xs : List A) → ((a b : A) → Has xs a → Has xs b → P a b → Q a b → R a b) → Pairs P xs → Pairs Q xs → Pairs R xs
Pairs-both P Q R [] f h k = tt
Pairs-both P Q R (y ∷ ys) f h k = (All-each _ ys (λ z i. f y z (inl refl) (inr i) (All-has (P y) ys z h.0 i) (All-has (Q y) ys z k.0 i)), Pairs-both P Q R ys (λ a b i j. f a b (inr i) (inr j)) h.1 k.1)

-- the first want of a block has the least number there
first_least : (ws : List Want) (a b : Want) → Rising ws → IsFirst ws b → Has ws a → on_block b a ≡ true → b.id ≤ a.id
first_least [] a b r f h o = absurd h
first_least (w ∷ ws) a b r f h o = elim (cases_Bool (on_block b w)) [
  | inl k ↦ (
      let q : slice_get (w ∷ filter (on_block b) ws) 0 ≡ Some b = rw k at f in
      let e : w ≡ b = cc in
      let i : w.id ≡ b.id = ap (λ v. v.id) e in
      ⊎_elim (λ e'. let i' : w.id ≡ a.id = ap (λ v. v.id) e' in omega arith) (λ h'. let lt = All-has _ ws a r.0 h' in omega arith) h)
  | inr k ↦ (
      let q : slice_get (filter (on_block b) ws) 0 ≡ Some b = rw k at f in
      ⊎_elim (λ e'. absurd (false≢true (sym k ∙ (ap (on_block b) e' ∙ o)))) (λ h'. first_least ws a b r.1 q h' o) h)
]

on_block_from : (m w : Want) → w.lun ≡ m.lun → w.block ≡ m.block → on_block m w ≡ true
on_block_from m w e f = rw (eq-eqb w.lun m.lun e) (eq-eqb w.block m.block f)

-- a new group's first phase in front
module _ (p : Problem) (s' : Schedule) (ip : IsProblem p) (ms : List Want) (since t : ℕ) (at : slice_get p.luns (lun_of ms) ≡ Some (Free since)) (st : IsStartable p.rules p.wants ms) (late : max p.bus_free since ≤ t) (lg : Legal (placed p (Start ms) t) s') where
  abbrev k : ℕ
  k = length ms

  abbrev x : LunState
  x = Free since

  abbrev here : 1 ≤ length ms
  here = st.group.some

  short : 0 < 2 * length ms
  short = let s = st.group.some in omega arith

  abbrev left : List Want
  left = without ms p.wants

  abbrev g : Placed
  g = record { members = ms; starts = t ∷ starts_at s' (lun_of ms) }

  abbrev back_start : Schedule
  back_start = with_first (Start ms) t s'

  start_perm : Perm (phases p back_start) (first p left s' (lun_of ms) ms 0 t x [] here short at lg ∷ phases (placed p (Start ms) t) s')
  start_perm =
      let f = first p left s' (lun_of ms) ms 0 t x [] here short at lg in
      let tl = tail p left s' (lun_of ms) ms 0 t x [] here short at lg in
      let r = rest_phases p.timing 0 p.luns (slice_set s'.rest (lun_of ms) []) in
      let r' = rest_phases p.timing 0 (slice_set p.luns (lun_of ms) (lun_after p.timing ms 0 (t + phase_length (group_spans p.timing ms) (length ms) 0))) s'.rest in
      let others = flat_map (group_phases p.timing) s'.groups in
      let change : Perm (tl ++ r) r' = with_tail p left s' (lun_of ms) ms 0 t x [] here short at lg [] in
      let assoc : Perm (tl ++ (r ++ others)) (r' ++ others) = rw (← append_assoc tl r others) (on_left others change) in
      trans (to_front r f (tl ++ others)) (Perm.skip f (trans (between r tl others) assoc))

  members_wanted : All (Has p.wants) ms
  members_wanted = All-each (Has p.wants) ms (λ m h. first_has (on_block m) p.wants m (All-has (IsFirst p.wants) ms m st.first h))

  in_groups : (h : Placed) (m : Want) → Has s'.groups h → Has h.members m → Has left m
  in_groups h m i j = All-has (Has left) (all_members s'.groups) m lg.shape.wants_only (Has-flat_map_in (λ g. g.members) s'.groups h m i j)

  -- who is left in a group of the others is no member
  passes : (w : Want) → Has left w → not (is_member ms w) ≡ true
  passes w h = go p.wants h
    where
      go : (ws : List Want) → Has (without ms ws) w → not (is_member ms w) ≡ true
      go [] i = absurd i
      go (v ∷ ws) i = elim (cases_Bool (not (is_member ms v))) [
        | inl q ↦ (let j : Has (v ∷ without ms ws) w = rw q at i in ⊎_elim (λ e. ap (λ u. not (is_member ms u)) (sym e) ∙ q) (λ j'. go ws j') j)
        | inr q ↦ (let j : Has (without ms ws) w = rw q at i in go ws j)
      ]

  -- nothing stands before a member on its block
  none_before : (a b : Want) → Has p.wants a → Has ms b → a.id < b.id → a.lun ≡ b.lun → a.block ≡ b.block → ⊥
  none_before a b i j lt el eb =
      let f = All-has (IsFirst p.wants) ms b st.first j in
      let le = first_least p.wants a b ip.ids f i (on_block_from b a el eb) in
      omega arith

  start_order : Pairs (KeepsBlockOrder p.timing (g ∷ s'.groups)) p.wants
  start_order = Pairs-both (λ a b. a.id < b.id) _ _ p.wants (λ a b ia ib lt q el eb u v hu hv ma mb. go a b ia lt q el eb u v hu hv ma mb) ip.ids (Pairs-unfiltered (KeepsBlockOrder p.timing s'.groups) (λ w. not (is_member ms w)) p.wants lg.block_order)
    where
      go : (a b : Want) → Has p.wants a → a.id < b.id → (not (is_member ms a) ≡ true → not (is_member ms b) ≡ true → KeepsBlockOrder p.timing s'.groups a b) → a.lun ≡ b.lun → a.block ≡ b.block → (u v : Placed) → Has (g ∷ s'.groups) u → Has (g ∷ s'.groups) v → Has u.members a → Has v.members b → Before (group_phases p.timing u) (group_phases p.timing v)
      go a b ia lt q el eb u v hu (inl e) ma mb = absurd (none_before a b ia (subst (λ z. Has z.members b) (sym e) mb) lt el eb)
      go a b ia lt q el eb u v (inl e) (inr hv) ma mb =
          let ma' = subst (λ z. Has z.members a) (sym e) ma in
          let la = All-has _ ms a st.group.lun ma' in
          let lb = All-has _ v.members b (All-has _ s'.groups v lg.group hv).lun mb in
          let r = tail_first p left s' (lun_of ms) ms 0 t x [] here short at lg v hv (sym la ∙ (el ∙ lb)) in
          subst (λ z. Before (group_phases p.timing z) (group_phases p.timing v)) e r
      go a b ia lt q el eb u v (inr hu) (inr hv) ma mb = q (passes a (in_groups u a hu ma)) (passes b (in_groups v b hv mb)) el eb u v hu hv ma mb

  start_back : Legal p back_start
  start_back = record {
    shape = record {
      luns = length_set s'.rest (lun_of ms) [] ∙ lg.shape.luns ∙ length_set p.luns (lun_of ms) _;
      rest = λ j g' n' r' vs. back_fits p left s' (lun_of ms) ms 0 t x [] here short at lg refl j (Running g' n' r') vs;
      no_rest = λ j since' vs. back_fits p left s' (lun_of ms) ms 0 t x [] here short at lg refl j (Free since') vs;
      starts = (omega (arith, count p left s' (lun_of ms) ms 0 t x [] here short at lg), lg.shape.starts);
      wants_only = All-append (Has p.wants) ms _ members_wanted (All-weaker (Has left) (Has p.wants) (λ w h. Has-filtered _ p.wants w h) (all_members s'.groups) lg.shape.wants_only);
      once = λ id.
          let a = total-append (λ w. if has_id id w then 1 else 0) ms (all_members s'.groups) in
          let b = lg.shape.once id in
          let d = startable_total (λ w. if has_id id w then 1 else 0) p ms ip st in
          omega arith;
    };
    from_bus_free = bus_first p left s' (lun_of ms) ms 0 t x [] here short at lg (omega arith) (phases p back_start) start_perm;
    no_overlap = apart_first p left s' (lun_of ms) ms 0 t x [] here short at lg (phases p back_start) start_perm;
    rest_waits = λ j g' n' r' vs. back_waits p left s' (lun_of ms) ms 0 t x [] here short at lg tt j (Running g' n' r') vs;
    waits = ((omega arith, order p left s' (lun_of ms) ms 0 t x [] here short at lg), lg.waits);
    running_first = (
      λ g' n' r' vs h i. let a = same_some (Free since) _ _ at h in cc,
      All-each _ s'.groups (λ h i g' n' r' vs. back_left p left s' (lun_of ms) ms 0 t x [] here short at lg h i (λ q. tt) (Running g' n' r') vs),
    );
    turns = (All-each _ s'.groups (λ h i e. inl (tail_first p left s' (lun_of ms) ms 0 t x [] here short at lg h i e)), lg.turns);
    from_since = (
      λ since' h. let a = same_some (Free since) _ _ at h in let e : since ≡ since' = cc in omega arith,
      All-each _ s'.groups (λ h i since'. back_since p left s' (lun_of ms) ms 0 t x [] here short at lg h i (λ q. starts_lower since (c p left s' (lun_of ms) ms 0 t x [] here short at lg) h.starts (omega arith) q) (Free since')),
    );
    block_order = start_order;
    group = (st.group, lg.group);
  }

  start_same : finish p back_start ≡ finish (placed p (Start ms) t) s'
  start_same = same_finish p left s' (lun_of ms) ms 0 t x [] here short at lg (omega arith) (phases p back_start) start_perm

-- a legal schedule of what a move leaves is one of the problem, with the move's phase in front
pub move_back : (p : Problem) (m : Move) (t : ℕ) (s' : Schedule) → IsProblem p → IsMove p m → earliest p m ≤ t → Legal (placed p m t) s' → Legal p (with_first m t s') × (finish p (with_first m t s') ≡ finish (placed p m t) s')
move_back p (Next l) t s' ip (g, n, r, at) late lg =
    let late' : max p.bus_free r ≤ t = rw at at late in
    let lg' : Legal (ran p l g n t) s' = rw at at lg in
    (next_back p s' ip l g n r t at late' lg', rw at (next_same p s' ip l g n r t at late' lg'))
move_back p (Start ms) t s' ip (since, at, st) late lg =
    let late' : max p.bus_free since ≤ t = rw at at late in
    (start_back p s' ip ms since t at st late' lg, start_same p s' ip ms since t at st late' lg)
