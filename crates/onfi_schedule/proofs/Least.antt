-- A legal schedule with something left has a first move.
use Rattle.std.proofs.Common.{◌≡◌, ℕ, zero, suc, ◌+◌, ◌≤◌, ◌<◌, ◌⊎◌, inl, inr, ⊎_elim, List, [], ◌∷◌, ◌++◌, length, Some, refl, sym, ap, ◌∙◌, subst, arith}
use Rattle.std.specs.Prelude.{slice_get, slice_set, true, max, ◌==◌}
use Rattle.std.specs.List.{AllByRecursion as All}
use Rattle.std.proofs.lemmas.Bool.{cases_lt, cases_Bool, eqb-true, false≢true}
use Rattle.std.proofs.lemmas.List.{nil_from_length}
use Rattle.onfi_request.specs.declared.want.Want.{Want}
use Rattle.onfi_problem.specs.declared.lun_state.LunState.{LunState}
use Rattle.onfi_problem.specs.declared.lun_state.LunState.TheVariants.{Free, Running}
use Rattle.onfi_problem.specs.Moves.{Move, Next, Start, IsMove, IsDone, earliest, placed}
use Rattle.onfi_group.specs.Words.{Has, Pairs, number}
use Rattle.onfi_problem.specs.Problem.{Problem, IsProblem, has_id}
use Rattle.onfi_group.specs.Group.{IsGroup, lun_of, group_spans, IsFirst, on_block}
use Rattle.onfi_timing.specs.Phases.{Lengths, phase_length}
use Rattle.onfi_schedule.specs.Schedule.{Placed, Schedule, Phase, end_of, phases_from, phases_left, rest_phases, group_phases, phases, latest, finish, InOrder, KeepsBlockOrder, all_members, Legal}
use Rattle.onfi_schedule.specs.Runs.{Step, Run}
use Rattle.onfi_schedule.specs.Laws.{ComesNext}
use Rattle.onfi_problem.proofs.Perm.{Perm, back, All-perm, All-has, All-each, All-front, All-back, All-flat_map, Has-append_cases, Has-flat_map, Has-flat_map_in, Has-perm, to_front, length_perm}
use Rattle.onfi_problem.proofs.Places.{get_within, within_get}
use Rattle.onfi_group.proofs.PhaseLengths.{phase_some}
use Rattle.onfi_schedule.proofs.Chains.{is_head}
use Rattle.onfi_schedule.proofs.Rests.{all_at, has_at}
use Rattle.onfi_schedule.proofs.First.{phases_long, next_phase, next_phases, next_legal}
use Rattle.onfi_schedule.proofs.Begin.{begun_phase, begun_phases, begun_legal, not_before, phases_number}
use Rattle.onfi_problem.proofs.Kept.{kept}
use Rattle.onfi_problem.proofs.Wants.{number_has, some_with_id, same_by_id}
use Rattle.onfi_group.proofs.Firsts.{on_own_block}

pub least_phase : (ps : List Phase) → 1 ≤ length ps → (x : Phase) × Has ps x × All (λ y. x.start ≤ y.start) ps
least_phase [] h = absurd (omega arith)
least_phase (x ∷ []) h = (x, inl refl, (omega arith, tt))
least_phase (x ∷ y ∷ ps) h =
    let r = least_phase (y ∷ ps) (omega arith) in
    elim (cases_lt x.start r.0.start) [
      | inl a ↦ (x, inl refl, (omega arith, All-each _ (y ∷ ps) (λ z k. let q = All-has _ (y ∷ ps) z r.2 k in omega arith)))
      | inr a ↦ (r.0, inr r.1, (a, r.2))
    ]

pub on_block_is : (m w : Want) → on_block m w ≡ true → (w.lun ≡ m.lun) × (w.block ≡ m.block)
on_block_is m w h = elim (cases_Bool (w.lun == m.lun)) [
  | inl k ↦ (let q : (w.block == m.block) ≡ true = rw k at h in (eqb-true w.lun m.lun k, eqb-true w.block m.block q))
  | inr k ↦ absurd (false≢true (rw k at h))
]

-- of the wants of a block, this one is the first, or one before it is so related to it
first_or_earlier : (R : Want → Want → Type 0) (ws : List Want) (m : Want) → Pairs R ws → Has ws m → IsFirst ws m ⊎ ((w : Want) × Has ws w × (w.lun ≡ m.lun) × (w.block ≡ m.block) × R w m)
first_or_earlier R [] m r h = absurd h
first_or_earlier R (v ∷ ws) m r h =
    elim (cases_Bool (on_block m v)) [
      | inl k ↦ (let b = on_block_is m v k in ⊎_elim (λ e. inl (rw k (ap Some e))) (λ i. inr (v, inl refl, b.0, b.1, All-has (R v) ws m r.0 i)) h)
      | inr k ↦ ⊎_elim (λ e. absurd (false≢true (sym k ∙ (ap (on_block m) e ∙ on_own_block m)))) (λ i. ⊎_elim (λ q. inl (rw k q)) (λ (w, a, b, c, d). inr (w, inr a, b, c, d)) (first_or_earlier R ws m r.1 i)) h
    ]

-- what comes next is a move, and what it leaves is legal
pub record FirstMove (p : Problem) (s : Schedule) (move : Move) (start : ℕ) (left : Schedule) : Type 0 where
  pub is_move : IsMove p move
  pub on_time : earliest p move ≤ start
  pub legal : Legal (placed p move start) left
  pub same_finish : finish (placed p move start) left ≡ finish p s
  pub one_fewer : length (phases p s) ≡ suc (length (phases (placed p move start) left))

pub some_or_none : {A : Type 0} (xs : List A) → (xs ≡ []) ⊎ (1 ≤ length xs)
some_or_none [] = inl refl
some_or_none (x ∷ xs) = inr (omega arith)

cut_at : {A : Type 0} (xs : List A) (x : A) → Has xs x → (before : List A) × (behind : List A) × (xs ≡ before ++ x ∷ behind)
cut_at [] x h = absurd h
cut_at (y ∷ xs) x (inl e) = ([], xs, ap (λ z. z ∷ xs) e)
cut_at (y ∷ xs) x (inr h) = let r = cut_at xs x h in (y ∷ r.0, r.1, ap (λ ys. y ∷ ys) r.2)

abbrev pub NextPhase : Problem → Schedule → Type 0
NextPhase p s = (move : Move) × (start : ℕ) × (left : Schedule) × ComesNext p s move start left

no_phases : (lun : ℕ) (spans : Lengths) (k n : ℕ) (ts : List ℕ) → All (λ x. ⊥) (phases_from lun spans k n ts) → length ts ≡ 0
no_phases lun spans k n [] h = refl
no_phases lun spans k n (t ∷ ts) h = absurd h.0

lun_below : (ms : List Want) (k : ℕ) → 1 ≤ length ms → ((m : Want) → Has ms m → m.lun < k) → lun_of ms < k
lun_below [] k h f = absurd (omega arith)
lun_below (m ∷ ms) k h f = f m (inl refl)

-- the greatest end, in whichever order
pub latest-perm : (b : ℕ) {xs ys : List Phase} → Perm xs ys → latest b xs ≡ latest b ys
latest-perm b Perm.none = refl
latest-perm b (Perm.skip x q) = ap (max (end_of x)) (latest-perm b q)
latest-perm b (Perm.swap x y xs) = omega arith
latest-perm b (Perm.trans q r) = latest-perm b q ∙ latest-perm b r

pub latest-behind : (b c : ℕ) (xs : List Phase) → b ≤ c → max c (latest b xs) ≡ latest c xs
latest-behind b c [] h = omega arith
latest-behind b c (x ∷ xs) h = let e = latest-behind b c xs h in omega arith

-- with its first phase taken off, a list of phases ends when it did
pub latest_without : (b c : ℕ) (x : Phase) (xs ys : List Phase) → Perm xs (x ∷ ys) → b ≤ x.start → end_of x ≡ c → latest c ys ≡ latest b xs
latest_without b c x xs ys perm from ends = ap (λ e. latest e ys) (sym ends) ∙ sym (latest-behind b (end_of x) ys (omega arith)) ∙ sym (latest-perm b perm)

module _ (p : Problem) (s : Schedule) (ip : IsProblem p) (lg : Legal p s) where
  -- each want has its group, and each member is wanted
  group_of : (w : Want) → Has p.wants w → (h : Placed) × Has s.groups h × Has h.members w
  group_of w k =
      let n : 1 ≤ number (has_id w.id) (all_members s.groups) = rw (lg.shape.once w.id) (number_has p.wants w k) in
      let v = some_with_id (all_members s.groups) w.id n in
      let same = same_by_id p.wants v.0 w ip.ids (All-has (Has p.wants) (all_members s.groups) v.0 lg.shape.wants_only v.1) k v.2 in
      let h = Has-flat_map (λ g. g.members) s.groups v.0 v.1 in
      (h.0, h.1, subst (Has h.0.members) same h.2)

  wanted : (h : Placed) (m : Want) → Has s.groups h → Has h.members m → Has p.wants m
  wanted h m k i = All-has (Has p.wants) (all_members s.groups) m lg.shape.wants_only (Has-flat_map_in (λ g. g.members) s.groups h m k i)

  group_number : (h : Placed) → Has s.groups h → 1 ≤ length (group_phases p.timing h)
  group_number h k =
      let starts = All-has _ s.groups h lg.shape.starts k in
      let some = (All-has _ s.groups h lg.group k).some in
      let n = phases_number (lun_of h.members) (group_spans p.timing h.members) (length h.members) 0 h.starts in
      omega arith

  rest_at : (l : ℕ) (x : LunState) → slice_get p.luns l ≡ Some x → (us : List ℕ) × (slice_get s.rest l ≡ Some us)
  rest_at l x at = let b = within_get p.luns l x at in let e = lg.shape.luns in get_within s.rest l (omega arith)

  pub of_group : (P : Phase → Type 0) (h : Placed) → Has s.groups h → All P (phases p s) → All P (group_phases p.timing h)
  of_group P h k a = All-has _ s.groups h (All-flat_map P (group_phases p.timing) s.groups (All-back P (rest_phases p.timing 0 p.luns s.rest) _ a)) k

  pub of_rest : (P : Phase → Type 0) (l : ℕ) (x : LunState) (us : List ℕ) → slice_get p.luns l ≡ Some x → slice_get s.rest l ≡ Some us → All P (phases p s) → All P (phases_left p.timing l x us)
  of_rest P l x us at starts_at a = all_at P p.timing 0 l l p.luns s.rest x us (omega arith) at starts_at (All-front P (rest_phases p.timing 0 p.luns s.rest) _ a)

  -- where no phase is left nothing is
  pub none_left : All (λ x. ⊥) (phases p s) → IsDone p
  none_left none = record {
    wants = no_wants p.wants refl;
    free = λ l g n r at.
        let us = rest_at l _ at in
        let z = no_phases l (group_spans p.timing g) (length g) n us.0 (of_rest (λ x. ⊥) l _ us.0 at us.1 none) in
        let c = lg.shape.rest l g n r us.0 at us.1 in
        let i = (ip.running l g n r at).unfinished in
        omega arith;
  }
    where
      no_wants : (ws : List Want) → p.wants ≡ ws → p.wants ≡ []
      no_wants [] e = e
      no_wants (w ∷ ws) e =
          let h = group_of w (rw e (inl refl)) in
          let n = group_number h.0 h.1 in
          let z = no_phases (lun_of h.0.members) (group_spans p.timing h.0.members) (length h.0.members) 0 h.0.starts (of_group (λ x. ⊥) h.0 h.1 none) in
          let c = phases_number (lun_of h.0.members) (group_spans p.timing h.0.members) (length h.0.members) 0 h.0.starts in
          absurd (omega arith)

  next_first : (l t : ℕ) (ts : List ℕ) → slice_get s.rest l ≡ Some (t ∷ ts) → All (λ x. t ≤ x.start) (phases p s) → FirstMove p s (Next l) t (record { rest = slice_set s.rest l ts; groups = s.groups })
  next_first l t ts starts_at least =
      let b = within_get s.rest l (t ∷ ts) starts_at in
      let e = lg.shape.luns in
      let x = get_within p.luns l (omega arith) in
      at_state x.0 x.1
    where
      at_state : (x : LunState) → slice_get p.luns l ≡ Some x → FirstMove p s (Next l) t (record { rest = slice_set s.rest l ts; groups = s.groups })
      at_state (Free since) at = let z = lg.shape.no_rest l since (t ∷ ts) at starts_at in cc
      at_state (Running g n r) at =
          let perm = next_phases p s ip lg l g n r t ts at starts_at in
          let bus = All-perm (λ x. p.bus_free ≤ x.start) perm lg.from_bus_free in
          let order = lg.rest_waits l g n r (t ∷ ts) at starts_at in
          record {
            is_move = (g, n, r, at);
            on_time = rw at (omega (arith, bus.0, order.0));
            legal = rw at (next_legal p s ip lg l g n r t ts at starts_at least);
            same_finish = rw at (latest_without p.bus_free _ (next_phase p s ip lg l g n r t ts at starts_at) (phases p s) _ perm bus.0 refl);
            one_fewer = rw at (length_perm perm);
          }

  -- the LUN of a group whose first phase is the least is free
  abbrev StartsFree : List Want → ℕ → Type 0
  StartsFree ms t = (since : ℕ) × (us : List ℕ) × (slice_get p.luns (lun_of ms) ≡ Some (Free since)) × (slice_get s.rest (lun_of ms) ≡ Some us) × IsGroup p.rules ms × All (IsFirst p.wants) ms × (since ≤ t)

  free_at : (ms : List Want) (t : ℕ) (ts us : List ℕ) → All (λ x. t ≤ x.start) (phases p s) → Has s.groups (record { members = ms; starts = t ∷ ts }) → IsGroup p.rules ms → All (IsFirst p.wants) ms → (x : LunState) → slice_get p.luns (lun_of ms) ≡ Some x → slice_get s.rest (lun_of ms) ≡ Some us → StartsFree ms t
  free_at ms t ts us least here group first (Free since) at starts_at = (since, us, at, starts_at, group, first, All-has _ s.groups (record { members = ms; starts = t ∷ ts }) lg.from_since here since at)
  free_at ms t ts us least here group first (Running g n r) at starts_at =
      let before = All-has _ s.groups (record { members = ms; starts = t ∷ ts }) lg.running_first here g n r us at starts_at in
      let c = lg.shape.rest (lun_of ms) g n r us at starts_at in
      let i = (ip.running (lun_of ms) g n r at).unfinished in
      let k = phases_number (lun_of ms) (group_spans p.timing g) (length g) n us in
      absurd (not_before t (record { lun = lun_of ms; start = t; length = phase_length (group_spans p.timing ms) (length ms) 0 }) _ (phases_from (lun_of ms) (group_spans p.timing g) (length g) n us)
      (of_rest (λ x. t ≤ x.start) (lun_of ms) _ us at starts_at least) (of_rest (λ x. 1 ≤ x.length) (lun_of ms) _ us at starts_at (phases_long p s lg.shape)) (omega arith) refl before)

  starts_free : (ms : List Want) (t : ℕ) (ts : List ℕ) (gs : List Placed) → Perm s.groups (record { members = ms; starts = t ∷ ts } ∷ gs) → All (λ x. t ≤ x.start) (phases p s) → StartsFree ms t
  starts_free ms t ts gs perm least =
      let g : Placed = record { members = ms; starts = t ∷ ts } in
      let here : Has s.groups g = Has-perm g (back perm) (inl refl) in
      let group : IsGroup p.rules ms = All-has _ s.groups g lg.group here in
      let below : lun_of ms < length p.luns = lun_below ms (length p.luns) group.some (λ m i. All-has _ p.wants m ip.in_range (wanted g m here i)) in
      let x = get_within p.luns (lun_of ms) below in
      let us = rest_at (lun_of ms) x.0 x.1 in
      let first : All (IsFirst p.wants) ms = All-each (IsFirst p.wants) ms (λ m i. ⊎_elim (λ q. q) (λ (w, hw, el, eb, r).
      let h = group_of w hw in
      let before = r el eb h.0 g h.1 here h.2 i in
      absurd (not_before t (record { lun = lun_of ms; start = t; length = phase_length (group_spans p.timing ms) (length ms) 0 }) _ (group_phases p.timing h.0) (of_group (λ x. t ≤ x.start) h.0 h.1 least) (of_group (λ x. 1 ≤ x.length) h.0 h.1 (phases_long p s lg.shape)) (group_number h.0 h.1) refl before)) (first_or_earlier (KeepsBlockOrder p.timing s.groups) p.wants m lg.block_order (wanted g m here i))) in
      free_at ms t ts us.0 least here group first x.0 x.1 us.1

  begun_first : (ms : List Want) (t : ℕ) (ts : List ℕ) (gs : List Placed) → Perm s.groups (record { members = ms; starts = t ∷ ts } ∷ gs) → All (λ x. t ≤ x.start) (phases p s) → FirstMove p s (Start ms) t (record { rest = slice_set s.rest (lun_of ms) ts; groups = gs })
  begun_first ms t ts gs perm least =
      let (since, us, at, starts_at, group, first, from) = starts_free ms t ts gs perm least in
      let order = begun_phases p s ip lg ms t ts gs perm since us at starts_at in
      let bus = All-perm (λ x. p.bus_free ≤ x.start) order lg.from_bus_free in
      record {
        is_move = (since, at, record { group = group; first = first });
        on_time = rw at (omega (arith, bus.0));
        legal = begun_legal p s ip lg ms t ts gs perm since us at starts_at least;
        same_finish = latest_without p.bus_free _ (begun_phase p s ip lg ms t ts gs perm since us at starts_at) (phases p s) _ order bus.0 refl;
        one_fewer = length_perm order;
      }

  -- the phase of least start is that of a move
  pub first_of : (move : Move) (start : ℕ) (left : Schedule) → ComesNext p s move start left → FirstMove p s move start left
  first_of (Next l) start left next = let b = next.begins in subst (FirstMove p s (Next l) start) (sym b.2) (next_first l start b.0 b.1 next.least)
  first_of (Start ms) start left next =
      let b = next.begins in
      let g : Placed = record { members = ms; starts = start ∷ b.0 } in
      let perm : Perm s.groups (g ∷ (b.1 ++ b.2)) = subst (λ (gs : List Placed). Perm gs (g ∷ (b.1 ++ b.2))) (sym b.3) (to_front b.1 g b.2) in
      subst (FirstMove p s (Start ms) start) (sym b.4) (begun_first ms start b.0 (b.1 ++ b.2) perm next.least)

  -- the least phase is the first one of its group
  in_rest : (l : ℕ) (x : LunState) (us : List ℕ) (y : Phase) → slice_get p.luns l ≡ Some x → slice_get s.rest l ≡ Some us → Has (phases_left p.timing l x us) y → All (λ z. y.start ≤ z.start) (phases p s) → NextPhase p s
  in_rest l (Free since) us y at starts_at h least = absurd h
  in_rest l (Running g n r) [] y at starts_at h least = absurd h
  in_rest l (Running g n r) (t ∷ ts) y at starts_at h least =
      let here = of_rest (λ z. y.start ≤ z.start) l _ (t ∷ ts) at starts_at least in
      let fits = lg.shape.rest l g n r (t ∷ ts) at starts_at in
      let e = is_head l (group_spans p.timing g) (length g) n r t ts y (phase_some p.timing g n (omega arith)) (lg.rest_waits l g n r (t ∷ ts) at starts_at) h here.0 in
      (Next l, t, record { rest = slice_set s.rest l ts; groups = s.groups }, record { begins = (ts, starts_at, refl); least = subst (λ (i : ℕ). All (λ z. i ≤ z.start) (phases p s)) e least })

  in_group : (h : Placed) (us : List ℕ) (y : Phase) → h.starts ≡ us → Has s.groups h → Has (group_phases p.timing h) y → All (λ z. y.start ≤ z.start) (phases p s) → NextPhase p s
  in_group h [] y e here i least = absurd (subst (λ (u : List ℕ). Has (phases_from (lun_of h.members) (group_spans p.timing h.members) (length h.members) 0 u) y) e i)
  in_group h (t ∷ ts) y e here i least =
      let spans = group_spans p.timing h.members in
      let k = length h.members in
      let i' = subst (λ (u : List ℕ). Has (phases_from (lun_of h.members) spans k 0 u) y) e i in
      let w = subst (InOrder spans k 0 0) e (All-has _ s.groups h lg.waits here) in
      let low = subst (λ (u : List ℕ). All (λ z. y.start ≤ z.start) (phases_from (lun_of h.members) spans k 0 u)) e (of_group (λ z. y.start ≤ z.start) h here least) in
      let fits = All-has _ s.groups h lg.shape.starts here in
      let count = ap length e in
      let q = is_head (lun_of h.members) spans k 0 0 t ts y (phase_some p.timing h.members 0 (omega arith)) w i' low.0 in
      let cut = cut_at s.groups h here in
      let g : Placed = record { members = h.members; starts = t ∷ ts } in
      let same : h ≡ g = ap (λ (u : List ℕ). record { members = h.members; starts = u }) e in (
        Start h.members,
        t,
        record { rest = slice_set s.rest (lun_of h.members) ts; groups = cut.0 ++ cut.1 },
        record { begins = (ts, cut.0, cut.1, cut.2 ∙ ap (λ (z : Placed). cut.0 ++ z ∷ cut.1) same, refl); least = subst (λ (j : ℕ). All (λ z. j ≤ z.start) (phases p s)) q least },
      )

  pub next_of : 1 ≤ length (phases p s) → NextPhase p s
  next_of some =
      let y = least_phase (phases p s) some in
      elim (Has-append_cases (rest_phases p.timing 0 p.luns s.rest) _ y.0 y.1) [
        | inl h ↦ (let a = has_at p.timing 0 p.luns s.rest y.0 h in let e : 0 + a.0 ≡ a.0 = omega arith in in_rest a.0 a.1 a.2 y.0 a.3 a.4 (subst (λ (l : ℕ). Has (phases_left p.timing l a.1 a.2) y.0) e a.5) y.2)
        | inr h ↦ (let a = Has-flat_map (group_phases p.timing) s.groups y.0 h in in_group a.0 a.0.starts y.0 refl a.1 a.2 y.2)
      ]

run_of : (n : ℕ) (p : Problem) (s : Schedule) → IsProblem p → Legal p s → length (phases p s) ≡ n → (steps : List Step) × Run p steps (finish p s)
run_of zero p s ip lg e =
    let none = nil_from_length (phases p s) e in
    ([], (none_left p s ip lg (rw none tt), rw none refl))
run_of (suc n) p s ip lg e =
    let (move, start, left, next) = next_of p s ip lg (omega arith) in
    let f = first_of p s ip lg move start left next in
    let r = run_of n (placed p move start) left (kept p move start ip f.is_move) f.legal (omega (arith, f.one_fewer)) in
    (record { move = move; start = start } ∷ r.0, (f.is_move, f.on_time, subst (Run (placed p move start) r.0) f.same_finish r.1))

-- a legal schedule is a run
pub legal_run : (p : Problem) (s : Schedule) → IsProblem p → Legal p s → (steps : List Step) × Run p steps (finish p s)
legal_run p s ip lg = run_of (length (phases p s)) p s ip lg refl
