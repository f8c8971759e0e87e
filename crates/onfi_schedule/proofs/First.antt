-- The first phase of a legal schedule is a move, and what is left is legal for what the move leaves.
use Rattle.std.proofs.Common.{◌≡◌, ℕ, suc, ◌+◌, ◌*◌, ◌≤◌, inl, inr, ⊎_elim, List, [], ◌∷◌, length, Some, refl, sym, ◌∙◌, subst, arith}
use Rattle.std.specs.Prelude.{slice_get, slice_set}
use Rattle.std.specs.List.{AllByRecursion as All, flat_map}
use Rattle.std.proofs.lemmas.Bool.{cases_lt}
use Rattle.onfi_timing.specs.declared.timing.Timing.{Timing}
use Rattle.onfi_request.specs.declared.want.Want.{Want}
use Rattle.onfi_problem.specs.declared.lun_state.LunState.{LunState}
use Rattle.onfi_problem.specs.declared.lun_state.LunState.TheVariants.{Free, Running}
use Rattle.onfi_problem.specs.Problem.{Problem, IsProblem}
use Rattle.onfi_group.specs.Group.{group_spans, lun_of}
use Rattle.onfi_timing.specs.Phases.{Lengths, phase_length, wait_before}
use Rattle.onfi_schedule.specs.Schedule.{Placed, Schedule, Phase, end_of, phases_from, phases_left, rest_phases, group_phases, phases, InOrder, Apart, Before, StartsFrom, IsSchedule, Legal}
use Rattle.onfi_schedule.specs.Conditions.{EachRest, StartsFit, StateFits, StateWaits, StateSince, LeftFirst, FromSince}
use Rattle.onfi_problem.specs.Moves.{lun_after, ran}
use Rattle.onfi_problem.proofs.Perm.{Perm, same, on_left, All-perm, Pairs-perm, All-append, All-weaker, All-both}
use Rattle.onfi_problem.proofs.Places.{length_set}
use Rattle.onfi_problem.proofs.LunAfter.{lun_after_running, lun_after_free}
use Rattle.onfi_schedule.proofs.Chains.{all_long}
use Rattle.onfi_schedule.proofs.Rests.{RunningFirst, FromFree, At, set_state, set_at, rest_changed}
use Rattle.onfi_schedule.proofs.LegalIs.{each_from, fits_of, waits_of, left_from, since_from}

-- every phase takes time
rest_long : (timing : Timing) (first : ℕ) (luns : List LunState) (rest : List (List ℕ)) → EachRest StateFits luns rest → All (λ x. 1 ≤ x.length) (rest_phases timing first luns rest)
rest_long timing first [] rest fits = tt
rest_long timing first (x ∷ luns) [] fits = tt
rest_long timing first (Free since ∷ luns) (ts ∷ rest) fits = rest_long timing (first + 1) luns rest fits.1
rest_long timing first (Running g n r ∷ luns) (ts ∷ rest) fits = All-append (λ x. 1 ≤ x.length) (phases_from first (group_spans timing g) (length g) n ts) _ (all_long first timing g n ts (let e = fits.0 in omega arith)) (rest_long timing (first + 1) luns rest fits.1)

groups_long : (timing : Timing) (groups : List Placed) → All StartsFit groups → All (λ x. 1 ≤ x.length) (flat_map (group_phases timing) groups)
groups_long timing [] fits = tt
groups_long timing (g ∷ groups) fits = All-append (λ x. 1 ≤ x.length) (group_phases timing g) _ (all_long (lun_of g.members) timing g.members 0 g.starts (let e = fits.0 in omega arith)) (groups_long timing groups fits.1)

pub phases_long : (p : Problem) (s : Schedule) → IsSchedule p s → All (λ x. 1 ≤ x.length) (phases p s)
phases_long p s shape =
    let fits = each_from StateFits p.luns s.rest (fits_of p s shape) in
    All-append (λ x. 1 ≤ x.length) (rest_phases p.timing 0 p.luns s.rest) _ (rest_long p.timing 0 p.luns s.rest fits) (groups_long p.timing s.groups shape.starts)

pub left_after : (timing : Timing) (l : ℕ) (g : List Want) (n ended : ℕ) (ts : List ℕ) → n + suc (length ts) ≡ 2 * length g → phases_left timing l (lun_after timing g n ended) ts ≡ phases_from l (group_spans timing g) (length g) (n + 1) ts
left_after timing l g n ended [] e = rw (lun_after_free timing g n ended (omega arith))
left_after timing l g n ended (t ∷ ts) e = rw (lun_after_running timing g n ended (omega arith))

pub starts_lower : (a b : ℕ) (ts : List ℕ) → a ≤ b → StartsFrom b ts → StartsFrom a ts
starts_lower a b [] l h = tt
starts_lower a b (t ∷ ts) l h = omega arith

pub starts_from : (b lun : ℕ) (spans : Lengths) (k n : ℕ) (ts : List ℕ) → All (λ y. b ≤ y.start) (phases_from lun spans k n ts) → StartsFrom b ts
starts_from b lun spans k n [] h = tt
starts_from b lun spans k n (t ∷ ts) h = h.0

-- the state that a phase leaves, and the starts after it
fits_after : (timing : Timing) (g : List Want) (n ended : ℕ) (ts : List ℕ) → n + suc (length ts) ≡ 2 * length g → StateFits (lun_after timing g n ended) ts
fits_after timing g n ended [] e = rw (lun_after_free timing g n ended (omega arith)) refl
fits_after timing g n ended (t ∷ ts) e = rw (lun_after_running timing g n ended (omega arith)) (omega arith)

waits_after : (timing : Timing) (g : List Want) (n ended : ℕ) (ts : List ℕ) → n + suc (length ts) ≡ 2 * length g → InOrder (group_spans timing g) (length g) (n + 1) (ended + wait_before (group_spans timing g) (length g) (n + 1)) ts → StateWaits timing (lun_after timing g n ended) ts
waits_after timing g n ended [] e h = rw (lun_after_free timing g n ended (omega arith)) tt
waits_after timing g n ended (t ∷ ts) e h = rw (lun_after_running timing g n ended (omega arith)) h

since_after : (timing : Timing) (g : List Want) (n ended : ℕ) (ts : List ℕ) → StartsFrom ended ts → StateSince (lun_after timing g n ended) ts
since_after timing g n ended ts h = elim (cases_lt (n + 1) (2 * length g)) [ inl a ↦ rw (lun_after_running timing g n ended a) tt | inr a ↦ rw (lun_after_free timing g n ended a) h ]

-- what holds after a phase on its LUN l, and what it leaves alone on the others
module _ (p : Problem) (s : Schedule) (lg : Legal p s) (l : ℕ) (g : List Want) (n ended : ℕ) (ts us : List ℕ) (x : LunState) (at : slice_get p.luns l ≡ Some x) (starts_at : slice_get s.rest l ≡ Some us) (count : n + suc (length ts) ≡ 2 * length g) where
  abbrev y : LunState
  y = lun_after p.timing g n ended

  pub new_fits : (j : ℕ) → At StateFits (slice_set p.luns l y) (slice_set s.rest l ts) j
  new_fits j = set_at StateFits p.luns s.rest l x y us ts at starts_at j (λ e. fits_after p.timing g n ended ts count) (fits_of p s lg.shape j)

  pub new_waits : InOrder (group_spans p.timing g) (length g) (n + 1) (ended + wait_before (group_spans p.timing g) (length g) (n + 1)) ts → (j : ℕ) → At (StateWaits p.timing) (slice_set p.luns l y) (slice_set s.rest l ts) j
  new_waits order j = set_at (StateWaits p.timing) p.luns s.rest l x y us ts at starts_at j (λ e. waits_after p.timing g n ended ts count order) (waits_of p s lg j)

  pub new_left : (h : Placed) → (l ≡ lun_of h.members → Before (phases_from l (group_spans p.timing g) (length g) (n + 1) ts) (group_phases p.timing h)) → RunningFirst p.timing p.luns s.rest h → LeftFirst p.timing (slice_set p.luns l y) (slice_set s.rest l ts) h
  new_left h own old =
      let Left : ℕ → LunState → List ℕ → Type 0 = λ i z vs. Before (phases_left p.timing i z vs) (group_phases p.timing h) in
      set_at (Left (lun_of h.members)) p.luns s.rest l x y us ts at starts_at (lun_of h.members) (λ e. subst (λ i. Left i y ts) e (rw (left_after p.timing l g n ended ts count) (own e))) (left_from p.timing p.luns s.rest h old)

  pub new_since : (h : Placed) → (l ≡ lun_of h.members → All (λ z. ended ≤ z.start) (group_phases p.timing h)) → FromFree p.luns h → FromSince (slice_set p.luns l y) h
  new_since h own old =
      set_state (λ z. StateSince z h.starts) p.luns l x y at (lun_of h.members) (λ e. since_after p.timing g n ended h.starts (starts_from ended (lun_of h.members) (group_spans p.timing h.members) (length h.members) 0 h.starts (own e))) (since_from p.luns h old)

-- those that start when the first one may, and don't overlap with it, start after it
pub behind_first : (t b : ℕ) (x : Phase) (xs : List Phase) → x.start ≡ t → end_of x ≡ b → All (Apart x) xs → All (λ y. t ≤ y.start) xs → All (λ y. 1 ≤ y.length) xs → All (λ y. b ≤ y.start) xs
behind_first t b x [] e f a l k = tt
behind_first t b x (y ∷ ys) e f a l k = (⊎_elim (λ h. omega (arith, h)) (λ h. absurd (omega (arith, h, l.0, k.0))) a.0, behind_first t b x ys e f a.1 l.1 k.1)

pub Apart-sym : (x y : Phase) → Apart x y → Apart y x
Apart-sym x y (inl h) = inr h
Apart-sym x y (inr h) = inl h

-- the next phase of a running group comes first
module _ (p : Problem) (s : Schedule) (ip : IsProblem p) (lg : Legal p s) (l : ℕ) (g : List Want) (n r t : ℕ) (ts : List ℕ) (at : slice_get p.luns l ≡ Some (Running g n r)) (starts_at : slice_get s.rest l ≡ Some (t ∷ ts)) where
  abbrev pub next_schedule : Schedule
  next_schedule = record { rest = slice_set s.rest l ts; groups = s.groups }

  abbrev pub next_phase : Phase
  next_phase = record { lun = l; start = t; length = phase_length (group_spans p.timing g) (length g) n }

  next_count : n + suc (length ts) ≡ 2 * length g
  next_count = omega (arith, lg.shape.rest l g n r (t ∷ ts) at starts_at)

  pub next_phases : Perm (phases p s) (next_phase ∷ phases (ran p l g n t) next_schedule)
  next_phases =
      on_left (flat_map (group_phases p.timing) s.groups) (rest_changed p.timing 0 l l p.luns s.rest (Running g n r) (lun_after p.timing g n (t + phase_length (group_spans p.timing g) (length g) n)) (t ∷ ts) ts [] (next_phase ∷ []) (omega arith) at starts_at
      (rw (left_after p.timing l g n (t + phase_length (group_spans p.timing g) (length g) n) ts next_count) (same _)))

  -- the other groups of the LUN come after the phase, and after those that are left
  next_before : (h : Placed) → RunningFirst p.timing p.luns s.rest h → l ≡ lun_of h.members → Before (next_phase ∷ phases_from l (group_spans p.timing g) (length g) (n + 1) ts) (group_phases p.timing h)
  next_before h old e =
      subst (λ i. Before (phases_left p.timing i (Running g n r) (t ∷ ts)) (group_phases p.timing h)) (sym e) (old g n r (t ∷ ts) (subst (λ i. slice_get p.luns i ≡ Some (Running g n r)) e at) (subst (λ i. slice_get s.rest i ≡ Some (t ∷ ts)) e starts_at))

  pub next_legal : All (λ x. t ≤ x.start) (phases p s) → Legal (ran p l g n t) next_schedule
  next_legal least =
      let b = t + phase_length (group_spans p.timing g) (length g) n in
      let order = lg.rest_waits l g n r (t ∷ ts) at starts_at in
      let least' = All-perm (λ x. t ≤ x.start) next_phases least in
      let long' = All-perm (λ x. 1 ≤ x.length) next_phases (phases_long p s lg.shape) in
      let apart = Pairs-perm Apart Apart-sym next_phases lg.no_overlap in
      let fits = new_fits p s lg l g n b ts (t ∷ ts) _ at starts_at next_count in
      record {
        shape = record {
          luns = length_set s.rest l ts ∙ lg.shape.luns ∙ sym (length_set p.luns l _);
          rest = λ j g' n' r' vs. fits j (Running g' n' r') vs;
          no_rest = λ j since vs. fits j (Free since) vs;
          starts = lg.shape.starts;
          wants_only = lg.shape.wants_only;
          once = lg.shape.once;
        };
        from_bus_free = behind_first t b next_phase _ refl refl apart.0 least'.1 long'.1;
        no_overlap = apart.1;
        rest_waits = λ j g' n' r' vs. new_waits p s lg l g n b ts (t ∷ ts) _ at starts_at next_count order.1 j (Running g' n' r') vs;
        waits = lg.waits;
        running_first = All-weaker _ _ (λ h old g' n' r' vs. new_left p s lg l g n b ts (t ∷ ts) _ at starts_at next_count h (λ e. (next_before h old e).1) old (Running g' n' r') vs) s.groups lg.running_first;
        turns = lg.turns;
        from_since = All-both _ _ _ (λ h old from since. new_since p s lg l g n b ts (t ∷ ts) _ at starts_at next_count h (λ e. (next_before h old e).0) from (Free since)) s.groups lg.running_first lg.from_since;
        block_order = lg.block_order;
        group = lg.group;
      }
