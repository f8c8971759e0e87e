-- What a dispatcher keeps is that of its channel, call after call.
use Rattle.std.proofs.Common.{◌≡◌, ◌≢◌, ℕ, zero, suc, ◌+◌, ◌<◌, ◌≤◌, ◌∙◌, inl, inr, Bool, true, false, List, [], ◌∷◌, ◌++◌, length, map, nat_lt, take, Option, Some, None, ap, arith, refl, subst, sym}
use Rattle.std.specs.Prelude.{◌==◌, cond, max, not, IfSome, MatchOption, slice_get, slice_set}
use Rattle.std.specs.List.{AllByRecursion as All, filter}
use Rattle.std.proofs.lemmas.Bool.{cases_Bool, cases_eq, eq-eqb, eqb-true, ne_eqb, lt-ltb, false≢true}
use Rattle.std.proofs.lemmas.List.{append-nil, length-map}
use Rattle.std.proofs.lemmas.List.Elements.{filter-append}
use Rattle.std.proofs.lemmas.Option.{slice_get_within}
use Rattle.onfi_timing.specs.declared.timing.Timing.{Timing}
use Rattle.onfi_timing.specs.Phases.{phase_length}
use Rattle.onfi_request.specs.declared.want.Want.{Want}
use Rattle.onfi_group.specs.Group.{group_spans, lun_of}
use Rattle.onfi_group.specs.Words.{Pairs}
use Rattle.onfi_group.proofs.Lists.{All-append}
use Rattle.onfi_problem.specs.declared.lun_state.LunState.{LunState}
use Rattle.onfi_problem.specs.declared.lun_state.LunState.TheVariants.{Free, Running}
use Rattle.onfi_problem.specs.Problem.{Problem}
use Rattle.onfi_problem.specs.Moves.{IsMove, Next, Start, free_from, lun_after, move_lun, placed}
use Rattle.onfi_problem.proofs.Lists.{map_get, map_set}
use Rattle.onfi_problem.proofs.Wants.{Pairs-filter}
use Rattle.onfi_problem.proofs.Places.{get_set_other, get_set_same, length_set}
use Rattle.onfi_steady.specs.declared.begin.Begin.{Begin}
use Rattle.onfi_steady.specs.declared.dispatcher.Dispatcher.{Dispatcher}
use Rattle.onfi_steady.specs.declared.first.Choice.{Choice}
use Rattle.onfi_steady.specs.declared.lun_books.LunBooks.{LunBooks}
use Rattle.onfi_steady.specs.declared.waiter.Waiter.{Waiter}
use Rattle.onfi_steady.specs.Waiting.{Books, accepted, begins_with, begun, channel, greatest_number, is_on, left_waiting, newest_with, passed_by}
use Rattle.onfi_steady.specs.Offer.{erase_group, firsts, is_open, on_lun, own_group, ready_on}
use Rattle.onfi_steady.specs.Next.{IsIdle, given_move, move_by}
use Rattle.onfi_steady.specs.Kept.{NoneBelow, held_group}
use Rattle.onfi_steady.specs.Slots.{IsBegin, begins, slots_in, waiters_in, wants_in}
use Rattle.onfi_steady.specs.LunBooks.{HasBegun, HasGoneOn, IsLun, IsLunOffer, begin_of, other_group, runs, state_in, states_in}
use Rattle.onfi_steady.specs.Selecting.{AreLuns, IsFirstChoice, IsFirstMove, IsHeldChoice, IsNextChoice, begin_turn, begun_at, begun_by, can_run, can_run_by, held_in}
use Rattle.onfi_steady.specs.Dispatcher.{AreDistinct, Differ, HasRun, IsBut, IsOf, accept_refusal, begun_books, due_wants, has_due, line_refusal, luns_of, newest_of, states_of}
use Rattle.onfi_steady.proofs.Leaving.{left_planes}
use Rattle.onfi_steady.proofs.NextFound.{held_phase}
use Rattle.onfi_steady.proofs.NextHeld.{idle}
use Rattle.onfi_steady.proofs.NextMove.{none_given}
use Rattle.onfi_steady.proofs.Selecting.{chosen_phase, none_or_some, state_at, state_free, state_going}
use Rattle.onfi_steady.proofs.Slots.{begin_size, left_waits}
use Rattle.onfi_steady.proofs.Starting.{Starts, erase_starts, own_starts}

pub at_some : {A : Type 0} (P : A → Type 0) (o : Option A) (x : A) → o ≡ Some x → IfSome o P → P x
at_some P o x e h = subst (λ z. IfSome z P) e h

pub the_same : {A : Type 0} (x y : A) → Some x ≡ Some y → x ≡ y
the_same x y h = cc

-- what a LUN is known to keep
pub lun_at : (timing : Timing) (books : Books) (luns : List LunBooks) (i : ℕ) (l : LunBooks) → AreLuns timing books luns → slice_get luns i ≡ Some l → IsLun timing books.rules l
lun_at timing books luns i l are e = at_some (IsLun timing books.rules) (slice_get luns i) l e (are.each i)

pub line_at : (timing : Timing) (books : Books) (luns : List LunBooks) (i : ℕ) (l : LunBooks) → AreLuns timing books luns → slice_get luns i ≡ Some l → waiters_in (slots_in l.line) ≡ on_lun i books.waiting
line_at timing books luns i l are e = at_some (λ (x : LunBooks). waiters_in (slots_in x.line) ≡ on_lun i books.waiting) (slice_get luns i) l e (are.waiting i)

-- what a LUN holds that runs nothing
module _ (timing : Timing) (books : Books) (luns : List LunBooks) (are : AreLuns timing books luns) (i : ℕ) (l : LunBooks) (e : slice_get luns i ≡ Some l) where
  offers_group : l.run.members ≡ 0 → wants_in (begins l.offer.group) ≡ held_group books i (Some (state_in l.run))
  offers_group none =
      let o = (lun_at timing books luns i l are e).offered none in
      o.group.members ∙ (ap (λ z. own_group books.rules (firsts z)) (line_at timing books luns i l are e) ∙ ap (held_group books i) (ap Some (sym (state_free l.run none))))

  pub holds_none : (from : ℕ) → held_in from i l ≡ None → held_group books i (Some (state_in l.run)) ≡ []
  holds_none from h = elim (none_or_some l.run.members) [
    | inl none ↦ elim (none_or_some l.offer.group.members) [
      | inl z ↦ (let size = begin_size l.offer.group in sym (offers_group none) ∙ empty (wants_in (begins l.offer.group)) (omega arith))
      | inr some ↦ (let q = rw (eq-eqb l.run.members 0 none, ne_eqb l.offer.group.members 0 (λ z. omega arith)) at h in absurd cc)
    ]
    | inr some ↦ rw (state_going l.run some) refl
  ]
    where
      empty : (xs : List Want) → length xs ≡ 0 → xs ≡ []
      empty [] h = refl
      empty (x ∷ xs) h = absurd (omega arith)

  pub holds_some : (from : ℕ) (c : Choice) → held_in from i l ≡ Some c → NoneBelow books (states_in luns) i → IsHeldChoice books luns from c
  holds_some from c h below = elim (none_or_some l.run.members) [
    | inl none ↦ elim (none_or_some l.offer.group.members) [
      | inl z ↦ (let q = rw (eq-eqb l.run.members 0 none, eq-eqb l.offer.group.members 0 z) at h in absurd cc)
      | inr some ↦ by_choice none some (rw (eq-eqb l.run.members 0 none, ne_eqb l.offer.group.members 0 (λ z. omega arith)) at h)
    ]
    | inr some ↦ (let q = rw (ne_eqb l.run.members 0 (λ z. omega arith)) at h in absurd cc)
  ]
    where
      by_choice : l.run.members ≡ 0 → 1 ≤ l.offer.group.members → Some (record { turn = begin_turn from None l.run.since l.offer.group; lun = i; erase = false }) ≡ Some c → IsHeldChoice books luns from c
      by_choice none some q =
          let k = the_same _ c q in
          let at : i ≡ c.lun = ap (λ (z : Choice). z.lun) k in
          record {
            lun = l;
            there = subst (λ z. slice_get luns z ≡ Some l) at e;
            free = none;
            group = sym (ap (λ (z : Choice). z.erase) k);
            some = some;
            start = sym (ap (λ (z : Choice). z.turn.start) k);
            lowest = subst (NoneBelow books (states_in luns)) at below;
          }

  -- no LUN below that number holds any, nor does that one
  pub below_more : (from : ℕ) → held_in from i l ≡ None → NoneBelow books (states_in luns) i → NoneBelow books (states_in luns) (i + 1)
  below_more from h below = λ lun k. elim (cases_eq lun i) [
    | inl q ↦ subst (λ z. held_group books z (slice_get (states_in luns) z) ≡ []) (sym q) (ap (held_group books i) (state_at timing books luns from i l e) ∙ holds_none from h)
    | inr d ↦ below lun (omega arith)
  ]

pub none_of : {A : Type 0} (o : Option A) → ((x : A) → o ≢ Some x) → o ≡ None
none_of None h = refl
none_of (Some x) h = absurd (h x refl)

-- .. is next where no LUN gives any
pub held_next : (timing : Timing) (books : Books) (luns : List LunBooks) (from : ℕ) (c : Choice) → AreLuns timing books luns → All (λ w. w.want.plane ≤ 3) books.waiting →
    ((lun : ℕ) → given_move books (channel timing from (states_in luns) books) lun ≡ None) → IsHeldChoice books luns from c → IsNextChoice books (channel timing from (states_in luns) books) luns c
held_next timing books luns from c are small none h = record {
  next = λ phase is.
      let l = h.lun in
      let begun : begun_at luns c.lun c.erase ≡ wants_in (begins l.offer.group) =
      ap (begun_by c.erase) h.there ∙ (rw (eq-eqb l.run.members 0 h.free) (ap (λ z. wants_in (begins (begin_of l.offer z))) h.group)) in
      let members : phase.members.items ≡ held_group books c.lun (Some (state_in l.run)) = is.members ∙ (begun ∙ offers_group timing books luns are c.lun l h.there h.free) in
      let some : phase.members.items ≢ [] = λ q. (let size = begin_size l.offer.group in let some = h.some in let empty : length (wants_in (begins l.offer.group)) ≡ 0 = ap length (sym begun ∙ (sym is.members ∙ q)) in omega arith) in
      let start : phase.start ≡ max from (free_from (Some (state_in l.run))) = is.start ∙ (h.start ∙ ap (λ z. max from (free_from (Some z))) (sym (state_free l.run h.free))) in
      held_phase books small (channel timing from (states_in luns) books) refl refl none c.lun (state_in l.run) phase
      (state_at timing books luns from c.lun l h.there) (members, some, is.lun, start) h.lowest;
}

-- the phase that was chosen is next
pub first_next : (timing : Timing) (books : Books) (luns : List LunBooks) (from : ℕ) → All (λ w. w.want.plane ≤ 3) books.waiting → (c : Choice) →
    IsFirstChoice books (channel timing from (states_in luns) books) luns (length luns) (Some c) → IsNextChoice books (channel timing from (states_in luns) books) luns c
first_next timing books luns from small c first = record {
  next = λ phase is.
      let p : Problem = channel timing from (states_in luns) books in
      let size : length luns ≡ length (states_in luns) = sym (length-map luns (λ (l : LunBooks). state_in l.run)) in
      chosen_phase books small p refl refl c.lun (begun_at luns c.lun c.erase) c.turn phase (subst (λ n. IsFirstMove books p n c.lun (begun_at luns c.lun c.erase) c.turn) size first) is.lun is.members is.start;
}

-- where no LUN gives any, what is held, or nothing is left
pub held_found : (timing : Timing) (books : Books) (luns : List LunBooks) (from : ℕ) (o : Option Choice) → AreLuns timing books luns → All (λ w. w.want.plane ≤ 3) books.waiting →
    IsFirstChoice books (channel timing from (states_in luns) books) luns (length luns) None → MatchOption o (NoneBelow books (states_in luns) (length luns)) (IsHeldChoice books luns from) →
    MatchOption o (IsIdle (channel timing from (states_in luns) books)) (IsNextChoice books (channel timing from (states_in luns) books) luns)
held_found timing books luns from o are small none h = by_option o h
  where
    p : Problem
    p = channel timing from (states_in luns) books

    size : length luns ≡ length (states_in luns)
    size = sym (length-map luns (λ (l : LunBooks). state_in l.run))

    no_move : (lun : ℕ) → given_move books p lun ≡ None
    no_move = none_given books small p refl refl (subst (λ n. (lun : ℕ) → lun < n → given_move books p lun ≡ None) size none)

    by_option : (o : Option Choice) → MatchOption o (NoneBelow books (states_in luns) (length luns)) (IsHeldChoice books luns from) → MatchOption o (IsIdle p) (IsNextChoice books p luns)
    by_option None h = idle books small p refl refl no_move (subst (NoneBelow books (states_in luns)) size h)
    by_option (Some c) h = held_next timing books luns from c are small no_move h

-- one LUN's requests
pub on_push : (lun : ℕ) (ws : List Waiter) (w : Waiter) → w.want.lun ≡ lun → on_lun lun (ws ++ w ∷ []) ≡ on_lun lun ws ++ w ∷ []
on_push lun ws w e = filter-append (is_on lun) ws (w ∷ []) ∙ ap (λ z. on_lun lun ws ++ cond z (w ∷ []) []) (eq-eqb w.want.lun lun e)

pub off_push : (lun : ℕ) (ws : List Waiter) (w : Waiter) → w.want.lun ≢ lun → on_lun lun (ws ++ w ∷ []) ≡ on_lun lun ws
off_push lun ws w d = filter-append (is_on lun) ws (w ∷ []) ∙ (ap (λ z. on_lun lun ws ++ cond z (w ∷ []) []) (ne_eqb w.want.lun lun d) ∙ append-nil (on_lun lun ws))

module _ (lun : ℕ) (ms : List Want) where
  abbrev pass : Waiter → Waiter
  pass = passed_by lun (greatest_number 0 ms)

  pub pass_want : (w : Waiter) → (pass w).want ≡ w.want
  pass_want w = elim (cases_Bool (is_on lun w)) [
    | inl k ↦ elim (cases_Bool (nat_lt w.want.id (greatest_number 0 ms))) [
      | inl q ↦ rw (k, q) refl
      | inr q ↦ rw (k, q) refl
    ]
    | inr k ↦ rw k refl
  ]

  passed_on : (at : ℕ) (w : Waiter) → is_on at (pass w) ≡ is_on at w
  passed_on at w = ap (λ (z : Want). z.lun == at) (pass_want w)

  abbrev stays : Waiter → Bool
  stays w = not (begins_with lun ms w)

  begins_on : (w : Waiter) → begins_with lun ms w ≡ true → is_on lun w ≡ true
  begins_on w b = elim (cases_Bool (is_on lun w)) [
    | inl k ↦ k
    | inr k ↦ (let q : false ≡ true = rw k at b in absurd (false≢true q))
  ]

  one_on : (w : Waiter) (some own : List Waiter) (x b : Bool) → is_on lun w ≡ x → begins_with lun ms w ≡ b → filter (is_on lun) (map pass some) ≡ map pass (filter stays own) →
      filter (is_on lun) (map pass (cond (not b) (w ∷ some) some)) ≡ map pass (filter stays (cond x (w ∷ own) own))
  one_on w some own true true e b h = h ∙ sym (ap (λ z. map pass (cond (not z) (w ∷ filter stays own) (filter stays own))) b)
  one_on w some own true false e b h =
      ap (λ z. cond z (pass w ∷ filter (is_on lun) (map pass some)) (filter (is_on lun) (map pass some))) (passed_on lun w ∙ e)
      ∙ (ap (λ z. pass w ∷ z) h ∙ sym (ap (λ z. map pass (cond (not z) (w ∷ filter stays own) (filter stays own))) b))
  one_on w some own false true e b h = absurd (false≢true (sym e ∙ begins_on w b))
  one_on w some own false false e b h =
      ap (λ z. cond z (pass w ∷ filter (is_on lun) (map pass some)) (filter (is_on lun) (map pass some))) (passed_on lun w ∙ e) ∙ h

  -- what is left of a LUN's is what of the LUN's is left
  pub on_left : (ws : List Waiter) → on_lun lun (left_waiting lun ms ws) ≡ left_waiting lun ms (on_lun lun ws)
  on_left [] = refl
  on_left (w ∷ ws) = one_on w (filter stays ws) (on_lun lun ws) (is_on lun w) (begins_with lun ms w) refl refl (on_left ws)

  off_lun : (at : ℕ) (w : Waiter) → at ≢ lun → is_on at w ≡ true → is_on lun w ≡ false
  off_lun at w d k = ne_eqb w.want.lun lun (λ e. d (sym (eqb-true w.want.lun at k) ∙ e))

  pass_off : (w : Waiter) → is_on lun w ≡ false → pass w ≡ w
  pass_off w k = rw k refl

  one_off : (at : ℕ) (w : Waiter) (some own : List Waiter) (y b : Bool) → at ≢ lun → is_on at w ≡ y → begins_with lun ms w ≡ b → filter (is_on at) (map pass some) ≡ own →
      filter (is_on at) (map pass (cond (not b) (w ∷ some) some)) ≡ cond y (w ∷ own) own
  one_off at w some own true true d e b h = absurd (false≢true (sym (off_lun at w d e) ∙ begins_on w b))
  one_off at w some own true false d e b h =
      ap (λ z. cond z (pass w ∷ filter (is_on at) (map pass some)) (filter (is_on at) (map pass some))) (passed_on at w ∙ e)
      ∙ (ap (λ z. z ∷ filter (is_on at) (map pass some)) (pass_off w (off_lun at w d e)) ∙ ap (λ z. w ∷ z) h)
  one_off at w some own false true d e b h = h
  one_off at w some own false false d e b h =
      ap (λ z. cond z (pass w ∷ filter (is_on at) (map pass some)) (filter (is_on at) (map pass some))) (passed_on at w ∙ e) ∙ h

  -- other LUNs' stay
  pub off_left : (at : ℕ) → at ≢ lun → (ws : List Waiter) → on_lun at (left_waiting lun ms ws) ≡ on_lun at ws
  off_left at d [] = refl
  off_left at d (w ∷ ws) = one_off at w (filter stays ws) (on_lun at ws) (is_on at w) (begins_with lun ms w) d refl refl (off_left at d ws)

  -- .. under numbers that differ
  passed_distinct : (ws : List Waiter) → Pairs Differ ws → Pairs Differ (map pass ws)
  passed_distinct [] h = tt
  passed_distinct (w ∷ ws) h = (each w ws h.0, passed_distinct ws h.1)
    where
      each : (w : Waiter) (ws : List Waiter) → All (Differ w) ws → All (Differ (pass w)) (map pass ws)
      each w [] h = tt
      each w (v ∷ ws) h = (differ, each w ws h.1)
        where
          differ : Differ (pass w) (pass v)
          differ same one = h.0 (ap (λ (z : Want). z.lun) (sym (pass_want w)) ∙ (same ∙ ap (λ (z : Want). z.lun) (pass_want v)))
              (ap (λ (z : Want). z.id) (sym (pass_want w)) ∙ (one ∙ ap (λ (z : Want). z.id) (pass_want v)))

  pub left_distinct : (ws : List Waiter) → Pairs Differ ws → Pairs Differ (left_waiting lun ms ws)
  left_distinct ws h = passed_distinct (filter stays ws) (Pairs-filter Differ stays ws h)

  pub left_there : (n : ℕ) (ws : List Waiter) → All (λ w. w.want.lun < n) ws → All (λ w. w.want.lun < n) (left_waiting lun ms ws)
  left_there n [] h = tt
  left_there n (w ∷ ws) h = elim (cases_Bool (begins_with lun ms w)) [
    | inl b ↦ rw b (left_there n ws h.1)
    | inr b ↦ rw b (subst (λ (z : Want). z.lun < n) (sym (pass_want w)) h.0, left_there n ws h.1)
  ]

-- one LUN changed
pub luns_changed : (timing : Timing) (books after : Books) (luns : List LunBooks) (i : ℕ) (l new : LunBooks) → AreLuns timing books luns → after.rules ≡ books.rules → slice_get luns i ≡ Some l →
    IsLun timing after.rules new → waiters_in (slots_in new.line) ≡ on_lun i after.waiting → ((at : ℕ) → at ≢ i → on_lun at after.waiting ≡ on_lun at books.waiting) →
    AreLuns timing after (slice_set luns i new)
luns_changed timing books after luns i l new are rules e is line others = record {
  each = λ at. elim (cases_eq at i) [
    | inl q ↦ subst (λ z. IfSome (slice_get (slice_set luns i new) z) (IsLun timing after.rules)) (sym q) (subst (λ z. IfSome z (IsLun timing after.rules)) (sym (get_set_same luns i l new e)) is)
    | inr d ↦ subst (λ z. IfSome z (IsLun timing after.rules)) (sym (get_set_other luns i at new d)) (subst (λ z. IfSome (slice_get luns at) (IsLun timing z)) (sym rules) (are.each at))
  ];
  waiting = λ at. elim (cases_eq at i) [
    | inl q ↦ subst (λ z. IfSome (slice_get (slice_set luns i new) z) (λ (x : LunBooks). waiters_in (slots_in x.line) ≡ on_lun z after.waiting)) (sym q)
        (subst (λ z. IfSome z (λ (x : LunBooks). waiters_in (slots_in x.line) ≡ on_lun i after.waiting)) (sym (get_set_same luns i l new e)) line)
    | inr d ↦ subst (λ z. IfSome z (λ (x : LunBooks). waiters_in (slots_in x.line) ≡ on_lun at after.waiting)) (sym (get_set_other luns i at new d))
        (subst (λ z. IfSome (slice_get luns at) (λ (x : LunBooks). waiters_in (slots_in x.line) ≡ z)) (sym (others at d)) (are.waiting at))
  ];
}

-- the first ones of a list, of which one changed
pub take_changed : {A : Type 0} (n : ℕ) (xs : List A) (i : ℕ) (x : A) → take n (slice_set xs i x) ≡ slice_set (take n xs) i x
take_changed zero xs i x = refl
take_changed (suc n) [] i x = refl
take_changed (suc n) (y ∷ xs) zero x = refl
take_changed (suc n) (y ∷ xs) (suc i) x = ap (λ z. y ∷ z) (take_changed n xs i x)

pub get_taken : {A : Type 0} (n : ℕ) (xs : List A) (i : ℕ) (x : A) → slice_get (take n xs) i ≡ Some x → slice_get xs i ≡ Some x
get_taken zero xs i x e = absurd cc
get_taken (suc n) [] i x e = e
get_taken (suc n) (y ∷ xs) zero x e = e
get_taken (suc n) (y ∷ xs) (suc i) x e = get_taken n xs i x e

set_same : {A : Type 0} (xs : List A) (i : ℕ) (x : A) → slice_get xs i ≡ Some x → slice_set xs i x ≡ xs
set_same [] i x e = refl
set_same (y ∷ xs) zero x e = ap (λ z. z ∷ xs) (sym (the_same y x e))
set_same (y ∷ xs) (suc i) x e = ap (λ z. y ∷ z) (set_same xs i x e)

pub states_changed : (luns : List LunBooks) (i : ℕ) (new : LunBooks) → states_in (slice_set luns i new) ≡ slice_set (states_in luns) i (state_in new.run)
states_changed luns i new = map_set (λ (x : LunBooks). state_in x.run) luns i new

pub state_there : (luns : List LunBooks) (i : ℕ) (l : LunBooks) → slice_get luns i ≡ Some l → slice_get (states_in luns) i ≡ Some (state_in l.run)
state_there luns i l e = map_get (λ (x : LunBooks). state_in x.run) luns i l e

-- one that runs what it ran
pub states_kept : (luns : List LunBooks) (i : ℕ) (l new : LunBooks) → slice_get luns i ≡ Some l → new.run ≡ l.run → states_in (slice_set luns i new) ≡ states_in luns
states_kept luns i l new e same =
    states_changed luns i new ∙ (ap (λ z. slice_set (states_in luns) i (state_in z)) same ∙ set_same (states_in luns) i (state_in l.run) (map_get (λ (x : LunBooks). state_in x.run) luns i l e))

-- the LUN of a request that is accepted
pub record IsAcceptedOn (d : Dispatcher) (want : Want) : Type 0 where
  pub lun : LunBooks
  pub there : slice_get (luns_of d) want.lun ≡ Some lun
  pub kept : slice_get d.lun want.lun ≡ Some lun

pub accepted_on : (d : Dispatcher) (want : Want) → accept_refusal d want ≡ None → IsAcceptedOn d want
accepted_on d want h = by_option (slice_get (luns_of d) want.lun) refl h
  where
    by_option : (o : Option LunBooks) → slice_get (luns_of d) want.lun ≡ o → line_refusal want.id o ≡ None → IsAcceptedOn d want
    by_option None e q = absurd cc
    by_option (Some l) e q = record { lun = l; there = e; kept = get_taken d.due.luns d.lun want.lun l e }

-- what of a dispatcher isn't its LUNs stays
pub record IsSame (old new : Dispatcher) : Type 0 where
  pub spans : new.spans ≡ old.spans
  pub rules : new.rules ≡ old.rules

-- a request was accepted
pub accepted_is : (timing : Timing) (books : Books) (want : Want) (old new : Dispatcher) (l after : LunBooks) → IsOf timing books old → IsSame old new →
    slice_get (luns_of old) want.lun ≡ Some l → luns_of new ≡ slice_set (luns_of old) want.lun after → newest_of new ≡ newest_with (newest_of old) want.kind want.id → want.plane ≤ 3 →
    waiters_in (slots_in after.line) ≡ waiters_in (slots_in l.line) ++ record { want = want; passed = 0 } ∷ [] → IsLun timing books.rules after →
    AreDistinct (accepted books want) → IsOf timing (accepted books want) new
accepted_is timing books want old new l after is same e changed newest plane line lun distinct =
    let w : Waiter = record { want = want; passed = 0 } in
    let size : length (luns_of new) ≡ length (luns_of old) = ap length changed ∙ length_set (luns_of old) want.lun after in
    record {
      spans = rw same.spans is.spans;
      rules = same.rules ∙ is.rules;
      newest = newest ∙ ap (λ z. newest_with z want.kind want.id) is.newest;
      planes = All-append (λ v. v.want.plane ≤ 3) books.waiting (w ∷ []) is.planes (plane, tt);
      there = subst (λ n. All (λ v. v.want.lun < n) (books.waiting ++ w ∷ [])) (sym size) (All-append (λ v. v.want.lun < length (luns_of old)) books.waiting (w ∷ []) is.there (slice_get_within (luns_of old) want.lun l e, tt));
      distinct = distinct;
      luns = subst (AreLuns timing (accepted books want)) (sym changed) (luns_changed timing books (accepted books want) (luns_of old) want.lun l after is.luns refl e lun
          (line ∙ (ap (λ z. z ++ w ∷ []) (line_at timing books (luns_of old) want.lun l is.luns e) ∙ sym (on_push want.lun books.waiting w refl)))
          (λ at d. off_push at books.waiting w (λ q. d (sym q))));
    }

-- the next phase of what a LUN runs went
pub gone_on : (timing : Timing) (books : Books) (old new : Dispatcher) (l after : LunBooks) (started ended : ℕ) → IsOf timing books old → IsSame old new → newest_of new ≡ newest_of old →
    slice_get (luns_of old) old.due.lun ≡ Some l → luns_of new ≡ slice_set (luns_of old) old.due.lun after → 1 ≤ l.run.members → HasGoneOn timing books.rules l after started ended → new.bus_free ≡ ended →
    HasRun timing books old new started
gone_on timing books old new l after started ended is same newest e changed some went bus =
    let lun = old.due.lun in
    let g = wants_in (runs l.run) in
    let p : Problem = channel timing old.bus_free (states_of old) books in
    let none : due_wants old ≡ [] = ap (begun_by old.due.erase) e ∙ rw (ne_eqb l.run.members 0 (λ z. omega arith)) refl in
    let state : slice_get (states_of old) lun ≡ Some (Running g l.run.next l.run.since) = state_at timing books (luns_of old) old.bus_free lun l e ∙ ap Some (state_going l.run some) in
    let goes : placed p (Next lun) started ≡ record p { bus_free = started + phase_length (group_spans timing g) (length g) l.run.next; luns = slice_set p.luns lun (lun_after timing g l.run.next (started + phase_length (group_spans timing g) (length g) l.run.next)) } = rw state refl in
    let step : move_by lun (due_wants old) ≡ Next lun = ap (move_by lun) none in
    record {
      move = subst (IsMove p) (sym step) (g, l.run.next, l.run.since, state);
      lun = ap move_lun step;
      bus_free = bus ∙ (went.ends ∙ sym (ap (λ z. (placed p z started).bus_free) step ∙ ap (λ (z : Problem). z.bus_free) goes));
      states = ap states_in changed ∙ (states_changed (luns_of old) lun after ∙ (ap (slice_set (states_of old) lun) (went.state ∙ ap (lun_after timing g l.run.next) went.ends)
          ∙ sym (ap (λ z. (placed p z started).luns) step ∙ ap (λ (z : Problem). z.luns) goes)));
      is = subst (λ z. IsOf timing (begun_books books lun z) new) (sym none) (record {
        spans = rw same.spans is.spans;
        rules = same.rules ∙ is.rules;
        newest = newest ∙ is.newest;
        planes = is.planes;
        there = subst (λ n. All (λ v. v.want.lun < n) books.waiting) (sym (ap length changed ∙ length_set (luns_of old) lun after)) is.there;
        distinct = is.distinct;
        luns = subst (AreLuns timing books) (sym changed) (luns_changed timing books books (luns_of old) lun l after is.luns refl e went.is
            (ap waiters_in went.line ∙ line_at timing books (luns_of old) lun l is.luns e) (λ at d. refl));
      });
    }

-- a group began
module _ (timing : Timing) (books : Books) (old new : Dispatcher) (l after : LunBooks) (started ended : ℕ) (is : IsOf timing books old) (same : IsSame old new) (newest : newest_of new ≡ newest_of old)
    (e : slice_get (luns_of old) old.due.lun ≡ Some l) (changed : luns_of new ≡ slice_set (luns_of old) old.due.lun after) (none : l.run.members ≡ 0) (bus : new.bus_free ≡ ended) where
  abbrev lun : ℕ
  lun = old.due.lun

  abbrev b : Begin
  b = begin_of l.offer old.due.erase

  abbrev p : Problem
  p = channel timing old.bus_free (states_of old) books

  has_begun : (m : Want) (ms : List Want) → due_wants old ≡ m ∷ ms → IsBegin timing (m ∷ ms) b → Starts books.rules books.waiting lun is.planes (m ∷ ms) →
      HasBegun timing books.rules lun old.due.erase (m ∷ ms) l after started ended → HasRun timing books old new started
  has_begun m ms due begin starts began =
      let g = m ∷ ms in
      let step : move_by lun (due_wants old) ≡ Start g = ap (move_by lun) due in
      let state : slice_get (states_of old) lun ≡ Some (Free l.run.since) = state_at timing books (luns_of old) old.bus_free lun l e ∙ ap Some (state_free l.run none) in
      let free : slice_get (states_of old) (lun_of g) ≡ Some (Free l.run.since) = subst (λ z. slice_get (states_of old) z ≡ Some (Free l.run.since)) (sym starts.on) state in
      let first : phase_length (group_spans timing g) (length g) 0 ≡ (group_spans timing g).cmd = rw (lt-ltb 0 (length g) (omega arith)) refl in
      let end : ended ≡ started + phase_length (group_spans timing g) (length g) 0 = began.ends ∙ ap (λ z. started + z) (sym first) in
      let last = begin.last ∙ ap (greatest_number 0) (sym begin.members) in
      record {
        move = subst (IsMove p) (sym step) (l.run.since, free, starts.startable);
        lun = ap move_lun step ∙ starts.on;
        bus_free = bus ∙ (end ∙ sym (ap (λ z. (placed p z started).bus_free) step));
        states = ap states_in changed ∙ (states_changed (luns_of old) lun after ∙ (ap (slice_set (states_of old) lun) (began.state ∙ ap (lun_after timing g 0) end)
            ∙ (ap (λ z. slice_set (states_of old) z (lun_after timing g 0 (started + phase_length (group_spans timing g) (length g) 0))) (sym starts.on) ∙ sym (ap (λ z. (placed p z started).luns) step))));
        is = subst (λ z. IsOf timing (begun_books books lun z) new) (sym due) (record {
          spans = rw same.spans is.spans;
          rules = same.rules ∙ is.rules;
          newest = newest ∙ is.newest;
          planes = left_planes lun g books.waiting is.planes;
          there = subst (λ n. All (λ v. v.want.lun < n) (left_waiting lun g books.waiting)) (sym (ap length changed ∙ length_set (luns_of old) lun after)) (left_there lun g (length (luns_of old)) books.waiting is.there);
          distinct = left_distinct lun g books.waiting is.distinct;
          luns = subst (AreLuns timing (begun books lun g)) (sym changed) (luns_changed timing books (begun books lun g) (luns_of old) lun l after is.luns refl e began.is
              (ap waiters_in began.line ∙ (left_waits lun b (slots_in l.line) last
              ∙ (ap (λ z. left_waiting lun z (waiters_in (slots_in l.line))) begin.members ∙ (ap (left_waiting lun g) (line_at timing books (luns_of old) lun l is.luns e) ∙ sym (on_left lun g books.waiting)))))
              (λ at d. off_left lun g at d books.waiting));
        });
      }

  -- what is offered of it
  offers : IsLunOffer timing books.rules (on_lun lun books.waiting) l.offer
  offers = subst (λ z. IsLunOffer timing books.rules z l.offer) (line_at timing books (luns_of old) lun l is.luns e) ((lun_at timing books (luns_of old) lun l is.luns e).offered none)

  begins_some : (g : List Want) → IsBegin timing g b → 1 ≤ b.members → g ≢ []
  begins_some g begin some q = let size = begin_size b in let n : length (wants_in (begins b)) ≡ 0 = ap length (begin.members ∙ q) in omega arith

  begun_of : (g : List Want) → IsBegin timing g b → 1 ≤ b.members → ((m : Want) (ms : List Want) → g ≡ m ∷ ms → Starts books.rules books.waiting lun is.planes (m ∷ ms)) →
      HasBegun timing books.rules lun old.due.erase g l after started ended → HasRun timing books old new started
  begun_of [] begin some starts began = absurd (begins_some [] begin some refl)
  begun_of (m ∷ ms) begin some starts began = has_begun m ms (ap (begun_by old.due.erase) e ∙ (rw (eq-eqb l.run.members 0 none) begin.members)) begin (starts m ms refl) began

  other_starts : (m : Want) (ms : List Want) → other_group books.rules (ready_on lun books.waiting) ≡ m ∷ ms → Starts books.rules books.waiting lun is.planes (m ∷ ms)
  other_starts m ms q = elim (cases_Bool (is_open books.rules (ready_on lun books.waiting))) [
    | inl o ↦ (let k : erase_group books.rules (ready_on lun books.waiting) ≡ m ∷ ms = rw o at q in erase_starts books.rules books.waiting lun is.planes m ms k)
    | inr o ↦ (let k : [] ≡ m ∷ ms = rw o at q in absurd cc)
  ]

  pub group_begun : 1 ≤ b.members → ((group : List Want) → IsBegin timing group b → HasBegun timing books.rules lun old.due.erase group l after started ended) → HasRun timing books old new started
  group_begun some began = elim (cases_Bool old.due.erase) [
    | inl k ↦ (
        let begin : IsBegin timing (other_group books.rules (ready_on lun books.waiting)) b = rw k offers.erase in
        begun_of (other_group books.rules (ready_on lun books.waiting)) begin some other_starts (began _ begin))
    | inr k ↦ (
        let begin : IsBegin timing (own_group books.rules (ready_on lun books.waiting)) b = rw k offers.group in
        begun_of (own_group books.rules (ready_on lun books.waiting)) begin some (λ m ms q. own_starts books.rules books.waiting lun is.planes m ms q) (began _ begin))
  ]

-- the LUN of the phase that is due
pub record IsRunnable (d : Dispatcher) : Type 0 where
  pub lun : LunBooks
  pub there : slice_get (luns_of d) d.due.lun ≡ Some lun
  pub kept : slice_get d.lun d.due.lun ≡ Some lun
  pub runs : can_run d.due.erase lun ≡ true

pub due_lun : (d : Dispatcher) → has_due d ≡ true → IsRunnable d
due_lun d h = elim (cases_Bool d.due.is_there) [
  | inl k ↦ (let q : can_run_by d.due.erase (slice_get (luns_of d) d.due.lun) ≡ true = rw k at h in by_option (slice_get (luns_of d) d.due.lun) refl q)
  | inr k ↦ (let q : false ≡ true = rw k at h in absurd (false≢true q))
]
  where
    by_option : (o : Option LunBooks) → slice_get (luns_of d) d.due.lun ≡ o → can_run_by d.due.erase o ≡ true → IsRunnable d
    by_option None e q = absurd (false≢true q)
    by_option (Some l) e q = record { lun = l; there = e; kept = get_taken d.due.luns d.lun d.due.lun l e; runs = q }

-- what the LUN offers begins, where it runs nothing
pub begins_there : (erase : Bool) (l : LunBooks) → can_run erase l ≡ true → l.run.members ≡ 0 → 1 ≤ (begin_of l.offer erase).members
begins_there erase l runs none = elim (none_or_some (begin_of l.offer erase).members) [
  | inl z ↦ (let q : false ≡ true = rw (eq-eqb l.run.members 0 none, eq-eqb (begin_of l.offer erase).members 0 z) at runs in absurd (false≢true q))
  | inr h ↦ h
]

-- what is due was changed, and nothing else
pub but_is : (timing : Timing) (books : Books) (old new : Dispatcher) → IsBut old new → IsOf timing books old → IsOf timing books new
but_is timing books old new but is = record {
  spans = rw but.spans is.spans;
  rules = but.rules ∙ is.rules;
  newest = but.newest ∙ is.newest;
  planes = is.planes;
  there = subst (λ (ls : List LunBooks). All (λ w. w.want.lun < length ls) books.waiting) (sym but.luns) is.there;
  distinct = is.distinct;
  luns = subst (AreLuns timing books) (sym but.luns) is.luns;
}

-- LUNs that are all the same
pub get_each : {A : Type 0} (P : ℕ → A → Type 0) (x : A) → ((at : ℕ) → P at x) → (xs : List A) → All (λ y. y ≡ x) xs → (n at : ℕ) → IfSome (slice_get (take n xs) at) (P at)
get_each P x h xs same zero at = tt
get_each P x h [] same (suc n) at = tt
get_each P x h (y ∷ xs) same (suc n) zero = subst (P 0) (sym same.0) (h 0)
get_each P x h (y ∷ xs) same (suc n) (suc at) = get_each (λ i. P (suc i)) x (λ i. h (suc i)) xs same.1 n at

pub each_state : (state : LunState) (x : LunBooks) → state_in x.run ≡ state → (xs : List LunBooks) → All (λ y. y ≡ x) xs → (n : ℕ) → All (λ s. s ≡ state) (states_in (take n xs))
each_state state x h xs same zero = tt
each_state state x h [] same (suc n) = tt
each_state state x h (y ∷ xs) same (suc n) = (ap (λ (z : LunBooks). state_in z.run) same.0 ∙ h, each_state state x h xs same.1 n)
