-- What is legal stays so where times are earlier.
use Rattle.std.proofs.Common.{◌≡◌, ℕ, suc, ◌+◌, ◌≤◌, List, [], ◌∷◌, ◌++◌, length, Some, refl, sym, ap, ◌∙◌, subst, arith}
use Rattle.std.specs.Prelude.{slice_get, slice_set}
use Rattle.std.specs.List.{AllByRecursion as All, flat_map}
use Rattle.onfi_timing.specs.declared.timing.Timing.{Timing}
use Rattle.onfi_timing.specs.Phases.{phase_length}
use Rattle.onfi_group.specs.declared.rules.Rules.{Rules}
use Rattle.onfi_request.specs.declared.want.Want.{Want}
use Rattle.onfi_group.specs.Words.{Pairs}
use Rattle.onfi_group.specs.Group.{group_spans, lun_of}
use Rattle.onfi_problem.specs.declared.lun_state.LunState.{LunState}
use Rattle.onfi_problem.specs.declared.lun_state.LunState.TheVariants.{Free, Running}
use Rattle.onfi_problem.specs.Problem.{Problem}
use Rattle.onfi_problem.specs.Moves.{Next, Start, lun_after, without}
use Rattle.onfi_problem.proofs.Perm.{All-weaker}
use Rattle.onfi_schedule.specs.Schedule.{Schedule, Phase, rest_phases, group_phases, phases_left, phases, latest, finish, Apart, Legal}
use Rattle.onfi_schedule.specs.Laws.{EarlierLaw}
use Rattle.onfi_schedule.proofs.Chains.{lower_floor}
use Rattle.onfi_schedule.proofs.First.{starts_lower}
use Rattle.onfi_schedule.proofs.Rests.{RunningFirst, FromFree}
use Rattle.onfi_schedule.proofs.Sooner.{SoonerState, SoonerLuns, luns_self, set_sooner, after_sooner, at_times, state_below, as_running}

as_free : (a : ℕ) (y : LunState) → SoonerState (Free a) y → (b : ℕ) × (y ≡ Free b) × (a ≤ b)
as_free a (Free b) h = (b, refl, h)
as_free a (Running g n r) h = absurd h

length_sooner : (xs ys : List LunState) → SoonerLuns xs ys → length xs ≡ length ys
length_sooner [] [] h = refl
length_sooner [] (y ∷ ys) h = absurd h
length_sooner (x ∷ xs) [] h = absurd h
length_sooner (x ∷ xs) (y ∷ ys) h = ap suc (length_sooner xs ys h.1)

left_same : (timing : Timing) (l : ℕ) (x y : LunState) (ts : List ℕ) → SoonerState x y → phases_left timing l x ts ≡ phases_left timing l y ts
left_same timing l (Free a) (Free b) ts h = refl
left_same timing l (Free a) (Running g n r) ts h = absurd h
left_same timing l (Running g n r) (Free b) ts h = absurd h
left_same timing l (Running g n r) (Running g' n' r') ts h = let eg = h.0 in let en = h.1 in rw (eg, en) refl

rest_same : (timing : Timing) (first : ℕ) (xs ys : List LunState) (rest : List (List ℕ)) → SoonerLuns xs ys → rest_phases timing first xs rest ≡ rest_phases timing first ys rest
rest_same timing first [] [] rest h = refl
rest_same timing first [] (y ∷ ys) rest h = absurd h
rest_same timing first (x ∷ xs) [] rest h = absurd h
rest_same timing first (x ∷ xs) (y ∷ ys) [] h = refl
rest_same timing first (x ∷ xs) (y ∷ ys) (ts ∷ rest) h =
    ap (λ ps. ps ++ rest_phases timing (first + 1) xs rest) (left_same timing first x y ts h.0) ∙ ap (λ ps. phases_left timing first y ts ++ ps) (rest_same timing (first + 1) xs ys rest h.1)

latest_sooner : (a b : ℕ) (ps : List Phase) → a ≤ b → latest a ps ≤ latest b ps
latest_sooner a b [] h = h
latest_sooner a b (p ∷ ps) h = let e = latest_sooner a b ps h in omega arith

module _ (timing : Timing) (rules : Rules) (wants : List Want) (b b' : ℕ) (luns luns' : List LunState) (s : Schedule) (le : b ≤ b') (sooner : SoonerLuns luns luns') where
  abbrev p : Problem
  p = at_times timing rules wants b luns

  abbrev q : Problem
  q = at_times timing rules wants b' luns'

  running : (l : ℕ) (g : List Want) (n r : ℕ) → slice_get luns l ≡ Some (Running g n r) → (r' : ℕ) × (slice_get luns' l ≡ Some (Running g n r')) × (r ≤ r')
  running l g n r at = let y = state_below luns luns' l (Running g n r) sooner at in let z = as_running g n r y.0 y.2 in (z.0, y.1 ∙ ap (λ (w : LunState). Some w) z.1, z.2)

  free : (l a : ℕ) → slice_get luns l ≡ Some (Free a) → (c : ℕ) × (slice_get luns' l ≡ Some (Free c)) × (a ≤ c)
  free l a at = let y = state_below luns luns' l (Free a) sooner at in let z = as_free a y.0 y.2 in (z.0, y.1 ∙ ap (λ (w : LunState). Some w) z.1, z.2)

  phases_same : phases p s ≡ phases q s
  phases_same = ap (λ ps. ps ++ flat_map (group_phases timing) s.groups) (rest_same timing 0 luns luns' s.rest sooner)

  pub sooner_legal : Legal q s → Legal p s
  sooner_legal lg = record {
    shape = record {
      luns = lg.shape.luns ∙ sym (length_sooner luns luns' sooner);
      rest = λ l g n r ts at k. let w = running l g n r at in lg.shape.rest l g n w.0 ts w.1 k;
      no_rest = λ l since ts at k. let w = free l since at in lg.shape.no_rest l w.0 ts w.1 k;
      starts = lg.shape.starts;
      wants_only = lg.shape.wants_only;
      once = lg.shape.once;
    };
    from_bus_free = subst (All (λ x. b ≤ x.start)) (sym phases_same) (All-weaker (λ x. b' ≤ x.start) (λ x. b ≤ x.start) (λ x h. omega arith) (phases q s) lg.from_bus_free);
    no_overlap = subst (Pairs Apart) (sym phases_same) lg.no_overlap;
    rest_waits = λ l g n r ts at k. let w = running l g n r at in lower_floor (group_spans timing g) (length g) n r w.0 ts w.2 (lg.rest_waits l g n w.0 ts w.1 k);
    waits = lg.waits;
    running_first = All-weaker (RunningFirst timing luns' s.rest) (RunningFirst timing luns s.rest) (λ g h group n r ts at k. let w = running (lun_of g.members) group n r at in h group n w.0 ts w.1 k) s.groups lg.running_first;
    turns = lg.turns;
    from_since = All-weaker (FromFree luns') (FromFree luns) (λ g h since at. let w = free (lun_of g.members) since at in starts_lower since w.0 g.starts w.2 (h w.0 w.1)) s.groups lg.from_since;
    block_order = lg.block_order;
    group = lg.group;
  }

  pub sooner_finish : finish p s ≤ finish q s
  sooner_finish = rw phases_same (latest_sooner b b' (phases q s) le)

-- with the phase of a move earlier
pub earlier_legal : EarlierLaw
earlier_legal p (Next l) t t' s (g, n, r, at) le lg =
    let len = phase_length (group_spans p.timing g) (length g) n in
    let early = lun_after p.timing g n (t + len) in
    let late = lun_after p.timing g n (t' + len) in
    let before : t + len ≤ t' + len = omega arith in
    let luns = set_sooner p.luns p.luns l early late (luns_self p.luns) (after_sooner p.timing g n (t + len) (t' + len) before) in
    let lg' = rw at at lg in
    rw at (sooner_legal p.timing p.rules p.wants (t + len) (t' + len) (slice_set p.luns l early) (slice_set p.luns l late) s before luns lg', sooner_finish p.timing p.rules p.wants (t + len) (t' + len) (slice_set p.luns l early) (slice_set p.luns l late) s before luns)
earlier_legal p (Start ms) t t' s mv le lg =
    let len = phase_length (group_spans p.timing ms) (length ms) 0 in
    let early = lun_after p.timing ms 0 (t + len) in
    let late = lun_after p.timing ms 0 (t' + len) in
    let before : t + len ≤ t' + len = omega arith in
    let luns = set_sooner p.luns p.luns (lun_of ms) early late (luns_self p.luns) (after_sooner p.timing ms 0 (t + len) (t' + len) before) in
    (sooner_legal p.timing p.rules (without ms p.wants) (t + len) (t' + len) (slice_set p.luns (lun_of ms) early) (slice_set p.luns (lun_of ms) late) s before luns lg, sooner_finish p.timing p.rules (without ms p.wants) (t + len) (t' + len) (slice_set p.luns (lun_of ms) early) (slice_set p.luns (lun_of ms) late) s before luns)
