-- A new group comes first.
use Rattle.std.proofs.Common.{◌≡◌, ℕ, suc, ◌+◌, ◌*◌, ◌≤◌, inl, inr, ⊎_elim, List, [], ◌∷◌, ◌++◌, length, Some, refl, sym, ap, ◌∙◌, arith, append_assoc}
use Rattle.std.specs.Prelude.{slice_get, slice_set}
use Rattle.std.specs.List.{AllByRecursion as All, flat_map}
use Rattle.onfi_timing.specs.declared.timing.Timing.{Timing}
use Rattle.onfi_request.specs.declared.want.Want.{Want}
use Rattle.onfi_problem.specs.declared.lun_state.LunState.TheVariants.{Free, Running}
use Rattle.onfi_group.specs.Words.{Has, number}
use Rattle.onfi_problem.specs.Problem.{Problem, IsProblem, has_id}
use Rattle.onfi_group.specs.Group.{IsGroup, group_spans, lun_of}
use Rattle.onfi_timing.specs.Phases.{phase_length}
use Rattle.onfi_schedule.specs.Schedule.{Placed, Schedule, Phase, phases_from, rest_phases, group_phases, phases, InOrder, Apart, Before, TakeTurns, all_members, Legal}
use Rattle.onfi_problem.specs.Moves.{lun_after, without}
use Rattle.onfi_problem.proofs.Perm.{Perm, same, trans, back, on_left, on_right, to_front, between, append_nil, All-perm, Pairs-perm, Has-perm, flat_map-perm, total-perm, All-back, All-each, All-has, All-flat_map}
use Rattle.onfi_problem.proofs.Places.{length_set}
use Rattle.onfi_schedule.proofs.Rests.{rest_changed}
use Rattle.onfi_schedule.proofs.First.{phases_long, left_after, new_fits, new_waits, new_left, new_since, behind_first, Apart-sym}
use Rattle.onfi_problem.proofs.Wants.{Pairs-filter, Pairs-weaker, others_once, others_only}

TakeTurns-sym : (timing : Timing) (a b : Placed) → TakeTurns timing a b → TakeTurns timing b a
TakeTurns-sym timing a b h e = ⊎_elim inr inl (h (sym e))

-- nothing that takes time ends when what came first starts
pub not_before : (t : ℕ) (y : Phase) (ys zs : List Phase) → All (λ x. t ≤ x.start) zs → All (λ x. 1 ≤ x.length) zs → 1 ≤ length zs → y.start ≡ t → Before zs (y ∷ ys) → ⊥
not_before t y ys [] a l s e b = omega arith
not_before t y ys (z ∷ zs) a l s e b = omega (arith, a.0, l.0, b.0.0)

pub phases_number : (lun : ℕ) (spans : _) (k n : ℕ) (ts : List ℕ) → length (phases_from lun spans k n ts) ≡ length ts
phases_number lun spans k n [] = refl
phases_number lun spans k n (t ∷ ts) = ap suc (phases_number lun spans k (n + 1) ts)

module _ (p : Problem) (s : Schedule) (ip : IsProblem p) (lg : Legal p s) (ms : List Want) (t : ℕ) (ts : List ℕ) (gs : List Placed) (perm : Perm s.groups (record { members = ms; starts = t ∷ ts } ∷ gs)) (since : ℕ) (us : List ℕ) (at : slice_get p.luns (lun_of ms) ≡ Some (Free since)) (starts_at : slice_get s.rest (lun_of ms) ≡ Some us) where
  abbrev g : Placed
  g = record { members = ms; starts = t ∷ ts }

  abbrev l : ℕ
  l = lun_of ms

  abbrev b : ℕ
  b = t + phase_length (group_spans p.timing ms) (length ms) 0

  abbrev pub begun_schedule : Schedule
  begun_schedule = record { rest = slice_set s.rest (lun_of ms) ts; groups = gs }

  abbrev pub begun_phase : Phase
  begun_phase = record { lun = lun_of ms; start = t; length = phase_length (group_spans p.timing ms) (length ms) 0 }

  abbrev pub begun : Problem
  begun = record { timing = p.timing; rules = p.rules; bus_free = b; luns = slice_set p.luns (lun_of ms) (lun_after p.timing ms 0 b); wants = without ms p.wants }

  begun_count : 0 + suc (length ts) ≡ 2 * length ms
  begun_count = omega (arith, (All-perm (λ h. length h.starts ≡ 2 * length h.members) perm lg.shape.starts).0)

  nothing : us ≡ []
  nothing = lg.shape.no_rest l since us at starts_at

  pub begun_phases : Perm (phases p s) (begun_phase ∷ phases begun begun_schedule)
  begun_phases =
      let r = rest_phases p.timing 0 p.luns s.rest in
      let tail = phases_from l (group_spans p.timing ms) (length ms) 1 ts in
      let others = flat_map (group_phases p.timing) gs in
      let change : Perm (tail ++ r) (rest_phases p.timing 0 begun.luns begun_schedule.rest) =
      rest_changed p.timing 0 l l p.luns s.rest (Free since) (lun_after p.timing ms 0 b) us ts tail [] (omega arith) at starts_at
      (rw (left_after p.timing l ms 0 b ts begun_count, append_nil tail) (same tail)) in
      let assoc : Perm (tail ++ (r ++ others)) (phases begun begun_schedule) = rw (← append_assoc tail r others) (on_left others change) in
      trans (on_right r (flat_map-perm (group_phases p.timing) perm)) (trans (to_front r begun_phase (tail ++ others)) (Perm.skip begun_phase (trans (between r tail others) assoc)))

  old : (h : Placed) → Has gs h → Has s.groups h
  old h k = Has-perm h (back perm) (inr k)

  -- the other groups of the LUN come after it
  begun_first : All (λ x. t ≤ x.start) (phases p s) → (h : Placed) → Has gs h → lun_of ms ≡ lun_of h.members → Before (group_phases p.timing g) (group_phases p.timing h)
  begun_first least h k e =
      let here = old h k in
      let r = rest_phases p.timing 0 p.luns s.rest in
      let turns = All-has _ gs h (Pairs-perm (TakeTurns p.timing) (TakeTurns-sym p.timing) perm lg.turns).0 k in
      let from = All-has _ s.groups h (All-flat_map _ (group_phases p.timing) s.groups (All-back (λ x. t ≤ x.start) r _ least)) here in
      let takes = All-has _ s.groups h (All-flat_map _ (group_phases p.timing) s.groups (All-back (λ x. 1 ≤ x.length) r _ (phases_long p s lg.shape))) here in
      let starts = All-has _ s.groups h lg.shape.starts here in
      let some = (All-has _ s.groups h lg.group here).some in
      let n = phases_number (lun_of h.members) (group_spans p.timing h.members) (length h.members) 0 h.starts in
      ⊎_elim (λ x. x) (λ x. absurd (not_before t begun_phase _ (group_phases p.timing h) from takes (omega arith) refl x)) (turns e)

  pub begun_legal : All (λ x. t ≤ x.start) (phases p s) → Legal begun begun_schedule
  begun_legal least =
      let least' = All-perm (λ x. t ≤ x.start) begun_phases least in
      let long' = All-perm (λ x. 1 ≤ x.length) begun_phases (phases_long p s lg.shape) in
      let apart = Pairs-perm Apart Apart-sym begun_phases lg.no_overlap in
      let fits = new_fits p s lg l ms 0 b ts us _ at starts_at begun_count in
      let in_order = All-perm (λ h. InOrder (group_spans p.timing h.members) (length h.members) 0 0 h.starts) perm lg.waits in
      let members_only = All-perm (Has p.wants) (flat_map-perm (λ h. h.members) perm) lg.shape.wants_only in
      let members_once : (id : ℕ) → number (has_id id) (ms ++ all_members gs) ≡ number (has_id id) p.wants = λ id. sym (total-perm _ (flat_map-perm (λ h. h.members) perm)) ∙ lg.shape.once id in
      record {
        shape = record {
          luns = length_set s.rest l ts ∙ lg.shape.luns ∙ sym (length_set p.luns l _);
          rest = λ j g' n' r' vs. fits j (Running g' n' r') vs;
          no_rest = λ j since' vs. fits j (Free since') vs;
          starts = (All-perm (λ h. length h.starts ≡ 2 * length h.members) perm lg.shape.starts).1;
          wants_only = others_only p.wants ms (all_members gs) ip.ids members_only members_once;
          once = others_once p.wants ms (all_members gs) ip.ids members_only members_once;
        };
        from_bus_free = behind_first t b begun_phase _ refl refl apart.0 least'.1 long'.1;
        no_overlap = apart.1;
        rest_waits = λ j g' n' r' vs. new_waits p s lg l ms 0 b ts us _ at starts_at begun_count in_order.0.1 j (Running g' n' r') vs;
        waits = in_order.1;
        running_first = All-each _ gs (λ h k g' n' r' vs. new_left p s lg l ms 0 b ts us _ at starts_at begun_count h (λ e. (begun_first least h k e).1) (All-has _ s.groups h lg.running_first (old h k)) (Running g' n' r') vs);
        turns = (Pairs-perm (TakeTurns p.timing) (TakeTurns-sym p.timing) perm lg.turns).1;
        from_since = All-each _ gs (λ h k since'. new_since p s lg l ms 0 b ts us _ at starts_at begun_count h (λ e. (begun_first least h k e).0) (All-has _ s.groups h lg.from_since (old h k)) (Free since'));
        block_order = Pairs-filter _ _ p.wants (Pairs-weaker _ _ (λ x y r e f h i hh hi. r e f h i (old h hh) (old i hi)) p.wants lg.block_order);
        group = (All-perm (λ h. IsGroup p.rules h.members) perm lg.group).1;
      }
