-- What a dispatcher keeps once one of its LUNs changed.
use Rattle.std.proofs.Common.{◌≡◌, ◌≢◌, ℕ, ◌+◌, ◌<◌, ◌≤◌, ◌∙◌, inl, inr, Bool, true, false, List, [], ◌∷◌, get_or, length, take, Option, Some, None, ap, arith, refl, subst, sym}
use Rattle.std.specs.Prelude.{◌||◌, cond, not, if◌then◌else◌, slice_get, slice_set}
use Rattle.std.specs.List.{AllByRecursion as All, filter, list_any}
use Rattle.std.proofs.lemmas.Bool.{cases_Bool, cases_eq, eq-eqb, eqb-true, ne_eqb, false≢true}
use Rattle.std.proofs.lemmas.Option.{get_or_from_slice_get}
use Rattle.onfi_timing.specs.declared.timing.Timing.{Timing}
use Rattle.onfi_request.specs.declared.want.Want.{Want}
use Rattle.onfi_group.specs.Words.{Has}
use Rattle.onfi_group.proofs.Lists.{All-has, Has-filter}
use Rattle.onfi_problem.specs.declared.lun_state.LunState.{LunState}
use Rattle.onfi_problem.proofs.Places.{get_within, length_set}
use Rattle.onfi_flight.specs.Flight.{luns_ready_by, ready_by}
use Rattle.onfi_steady.specs.declared.dispatcher.Dispatcher.{Dispatcher}
use Rattle.onfi_steady.specs.declared.lun_books.LunBooks.{LunBooks}
use Rattle.onfi_steady.specs.declared.slot.Slot.{Slot}
use Rattle.onfi_steady.specs.declared.waiter.Waiter.{Waiter}
use Rattle.onfi_steady.specs.Waiting.{Books, is_on, wants_of}
use Rattle.onfi_steady.specs.Offer.{on_lun}
use Rattle.onfi_steady.specs.Slots.{has_number, others_of, slots_in, waiters_in}
use Rattle.onfi_steady.specs.LunBooks.{IsLun}
use Rattle.onfi_steady.specs.Selecting.{AreLuns, NoneHolds}
use Rattle.onfi_steady.specs.Dispatcher.{AreDistinct, IsOf, again_line_refusal, again_refusal, array_refusal, has_id, in_array, is_request, luns_of, newest_of, ready_refusal}
use Rattle.onfi_steady.proofs.Dispatching.{IsSame, get_taken, line_at, luns_changed, take_changed, the_same}
use Rattle.onfi_steady.proofs.Slots.{others_wait}

-- the LUN at a place
pub lun_there : (d : Dispatcher) (i at : ℕ) (index x : LunBooks) → at ≡ i → slice_get (luns_of d) i ≡ Some x → slice_get (luns_of d) i ≡ Some (get_or d.lun at index)
lun_there d i at index x same there =
    let kept : slice_get d.lun at ≡ Some x = subst (λ j. slice_get d.lun j ≡ Some x) (sym same) (get_taken d.due.luns d.lun i x there) in
    there ∙ ap Some (sym (get_or_from_slice_get d.lun at x index kept))

pub changed_at : (d : Dispatcher) (i at : ℕ) (after : LunBooks) → at ≡ i → take d.due.luns (slice_set d.lun at after) ≡ slice_set (luns_of d) i after
changed_at d i at after same = take_changed d.due.luns d.lun at after ∙ ap (λ j. slice_set (luns_of d) j after) same

pub changed_is : (timing : Timing) (books later : Books) (old new : Dispatcher) (lun : ℕ) (l after : LunBooks) → IsOf timing books old → IsSame old new → newest_of new ≡ newest_of old →
    later.rules ≡ books.rules → later.newest ≡ books.newest → slice_get (luns_of old) lun ≡ Some l → luns_of new ≡ slice_set (luns_of old) lun after → All (λ w. w.want.plane ≤ 3) later.waiting →
    All (λ w. w.want.lun < length (luns_of old)) later.waiting → IsLun timing books.rules after → waiters_in (slots_in after.line) ≡ on_lun lun later.waiting →
    ((at : ℕ) → at ≢ lun → on_lun at later.waiting ≡ on_lun at books.waiting) → AreDistinct later → IsOf timing later new
changed_is timing books later old new lun l after is same newest rules latest e changed planes there lun_is line others distinct = record {
  spans = rw same.spans is.spans;
  rules = same.rules ∙ (is.rules ∙ sym rules);
  newest = newest ∙ (is.newest ∙ sym latest);
  planes = planes;
  there = subst (λ n. All (λ w. w.want.lun < n) later.waiting) (sym (ap length changed ∙ length_set (luns_of old) lun after)) there;
  distinct = distinct;
  luns = subst (AreLuns timing later) (sym changed) (luns_changed timing books later (luns_of old) lun l after is.luns rules e (subst (λ z. IsLun timing z after) (sym rules) lun_is) line others);
}

-- a LUN whose array works
pub record IsWorking (d : Dispatcher) (lun : ℕ) : Type 0 where
  pub books : LunBooks
  pub there : slice_get (luns_of d) lun ≡ Some books
  pub works : in_array books.run ≡ true

pub working_on : (d : Dispatcher) (lun : ℕ) → ready_refusal d lun ≡ None → IsWorking d lun
working_on d lun h = by_option (slice_get (luns_of d) lun) refl h
  where
    by_option : (o : Option LunBooks) → slice_get (luns_of d) lun ≡ o → array_refusal o ≡ None → IsWorking d lun
    by_option None e q = absurd cc
    by_option (Some l) e q = elim (cases_Bool (in_array l.run)) [
      | inl k ↦ record { books = l; there = e; works = k }
      | inr k ↦ (let r = rw k at q in absurd cc)
    ]

pub ready_states : (states : List LunState) (lun moment : ℕ) (state : LunState) → slice_get states lun ≡ Some state → luns_ready_by moment lun (slice_get states lun) states ≡ slice_set states lun (ready_by moment state)
ready_states states lun moment state e = ap (λ o. luns_ready_by moment lun o states) e

-- the LUN of a request that is taken in again
pub again_on : (d : Dispatcher) (want : Want) → again_refusal d want ≡ None → (l : LunBooks) × (slice_get (luns_of d) want.lun ≡ Some l)
again_on d want h = by_option (slice_get (luns_of d) want.lun) refl h
  where
    by_option : (o : Option LunBooks) → slice_get (luns_of d) want.lun ≡ o → again_line_refusal want.id o ≡ None → (l : LunBooks) × (slice_get (luns_of d) want.lun ≡ Some l)
    by_option None e q = absurd cc
    by_option (Some l) e q = (l, e)

pub on_first : (w : Waiter) (ws : List Waiter) → on_lun w.want.lun (w ∷ ws) ≡ w ∷ on_lun w.want.lun ws
on_first w ws = rw (eq-eqb w.want.lun w.want.lun refl) refl

pub off_first : (at : ℕ) (w : Waiter) (ws : List Waiter) → at ≢ w.want.lun → on_lun at (w ∷ ws) ≡ on_lun at ws
off_first at w ws d = rw (ne_eqb w.want.lun at (λ e. d (sym e))) refl

-- requests by their numbers
any_waits : (id : ℕ) (slots : List Slot) → has_number slots id ≡ list_any (has_id id) (waiters_in slots)
any_waits id [] = refl
any_waits id (s ∷ slots) = rw (any_waits id slots) refl

any_request : (lun id : ℕ) (ws : List Waiter) → list_any (is_request lun id) ws ≡ list_any (has_id id) (on_lun lun ws)
any_request lun id [] = refl
any_request lun id (w ∷ ws) = by_test (is_on lun w) (list_any (is_request lun id) ws) (on_lun lun ws) (any_request lun id ws)
  where
    by_test : (b r : Bool) (rest : List Waiter) → r ≡ list_any (has_id id) rest → ((if b then has_id id w else false) || r) ≡ list_any (has_id id) (cond b (w ∷ rest) rest)
    by_test true r rest e = ap (λ z. has_id id w || z) e
    by_test false r rest e = e

pub holds_request : (timing : Timing) (books : Books) (luns : List LunBooks) (lun id : ℕ) (l : LunBooks) → AreLuns timing books luns → slice_get luns lun ≡ Some l →
    has_number (slots_in l.line) id ≡ list_any (is_request lun id) books.waiting
holds_request timing books luns lun id l are e =
    any_waits id (slots_in l.line) ∙ (ap (list_any (has_id id)) (line_at timing books luns lun l are e) ∙ sym (any_request lun id books.waiting))

pub none_more : (luns : List LunBooks) (id i : ℕ) (l : LunBooks) → slice_get luns i ≡ Some l → has_number (slots_in l.line) id ≡ false → NoneHolds luns id i → NoneHolds luns id (i + 1)
none_more luns id i l there none below = λ lun x h e. elim (cases_eq lun i) [
  | inl q ↦ (let s : Some l ≡ Some x = sym there ∙ (ap (slice_get luns) (sym q) ∙ e) in subst (λ (z : LunBooks). has_number (slots_in z.line) id ≡ false) (the_same l x s) none)
  | inr d ↦ below lun x (omega arith) e
]

pub none_has : {A : Type 0} (test : A → Bool) (xs : List A) (x : A) → list_any test xs ≡ false → Has xs x → test x ≡ false
none_has test [] x h has = absurd has
none_has test (y ∷ xs) x h has = elim (cases_Bool (test y)) [
  | inl k ↦ (let q : true ≡ false = rw k at h in absurd (false≢true (sym q)))
  | inr k ↦ (let q : list_any test xs ≡ false = rw k at h in elim has [
    | inl e ↦ subst (λ z. test z ≡ false) e k
    | inr i ↦ none_has test xs x q i
  ])
]

none_any : {A : Type 0} (test : A → Bool) (xs : List A) → ((x : A) → Has xs x → test x ≡ false) → list_any test xs ≡ false
none_any test [] h = refl
none_any test (x ∷ xs) h = rw (h x (inl refl)) (none_any test xs (λ y i. h y (inr i)))

pub none_waits : (timing : Timing) (books : Books) (luns : List LunBooks) (id : ℕ) → AreLuns timing books luns → All (λ w. w.want.lun < length luns) books.waiting → NoneHolds luns id (length luns) →
    list_any (has_id id) books.waiting ≡ false
none_waits timing books luns id are there none = none_any (has_id id) books.waiting each
  where
    each : (w : Waiter) → Has books.waiting w → has_id id w ≡ false
    each w i =
        let within = All-has (λ (v : Waiter). v.want.lun < length luns) books.waiting w there i in
        let at = get_within luns w.want.lun within in
        let free = none w.want.lun at.0 within at.1 in
        let quiet : list_any (has_id id) (on_lun w.want.lun books.waiting) ≡ false =
        ap (list_any (has_id id)) (sym (line_at timing books luns w.want.lun at.0 are at.1)) ∙ (sym (any_waits id (slots_in at.0.line)) ∙ free) in
        none_has (has_id id) (on_lun w.want.lun books.waiting) w quiet (Has-filter (is_on w.want.lun) books.waiting w i (eq-eqb w.want.lun w.want.lun refl))

-- without a request
pub all_filter : {A : Type 0} (P : A → Type 0) (test : A → Bool) (xs : List A) → All P xs → All P (filter test xs)
all_filter P test [] h = tt
all_filter {A = A} P test (x ∷ xs) h = by_test (test x) (filter test xs) (all_filter P test xs h.1)
  where
    by_test : (b : Bool) (rest : List A) → All P rest → All P (cond b (x ∷ rest) rest)
    by_test true rest r = (h.0, r)
    by_test false rest r = r

module _ (lun id : ℕ) where
  abbrev other : Waiter → Bool
  other w = not (has_id id w)

  abbrev stays : Waiter → Bool
  stays w = not (is_request lun id w)

  one_on : (w : Waiter) (some own : List Waiter) (x : Bool) → is_on lun w ≡ x → filter (is_on lun) some ≡ filter other own →
      filter (is_on lun) (cond (not (if x then has_id id w else false)) (w ∷ some) some) ≡ filter other (cond x (w ∷ own) own)
  one_on w some own true e h = by_id (has_id id w) refl
    where
      by_id : (b : Bool) → has_id id w ≡ b → filter (is_on lun) (cond (not b) (w ∷ some) some) ≡ cond (not b) (w ∷ filter other own) (filter other own)
      by_id true q = h
      by_id false q = ap (λ z. cond z (w ∷ filter (is_on lun) some) (filter (is_on lun) some)) e ∙ ap (λ z. w ∷ z) h
  one_on w some own false e h = ap (λ z. cond z (w ∷ filter (is_on lun) some) (filter (is_on lun) some)) e ∙ h

  pub on_cancelled : (ws : List Waiter) → on_lun lun (filter stays ws) ≡ filter other (on_lun lun ws)
  on_cancelled [] = refl
  on_cancelled (w ∷ ws) = one_on w (filter stays ws) (on_lun lun ws) (is_on lun w) refl (on_cancelled ws)

  off_lun : (at : ℕ) (w : Waiter) → at ≢ lun → is_on at w ≡ true → is_on lun w ≡ false
  off_lun at w d k = ne_eqb w.want.lun lun (λ e. d (sym (eqb-true w.want.lun at k) ∙ e))

  one_off : (at : ℕ) (w : Waiter) (some own : List Waiter) (y x b : Bool) → at ≢ lun → is_on at w ≡ y → is_on lun w ≡ x → has_id id w ≡ b → filter (is_on at) some ≡ own →
      filter (is_on at) (cond (not (if x then b else false)) (w ∷ some) some) ≡ cond y (w ∷ own) own
  one_off at w some own true true b d e f g h = absurd (false≢true (sym (off_lun at w d e) ∙ f))
  one_off at w some own true false b d e f g h = ap (λ z. cond z (w ∷ filter (is_on at) some) (filter (is_on at) some)) e ∙ ap (λ z. w ∷ z) h
  one_off at w some own false true true d e f g h = h
  one_off at w some own false true false d e f g h = ap (λ z. cond z (w ∷ filter (is_on at) some) (filter (is_on at) some)) e ∙ h
  one_off at w some own false false b d e f g h = ap (λ z. cond z (w ∷ filter (is_on at) some) (filter (is_on at) some)) e ∙ h

  pub off_cancelled : (at : ℕ) → at ≢ lun → (ws : List Waiter) → on_lun at (filter stays ws) ≡ on_lun at ws
  off_cancelled at d [] = refl
  off_cancelled at d (w ∷ ws) = one_off at w (filter stays ws) (on_lun at ws) (is_on at w) (is_on lun w) (has_id id w) d refl refl refl (off_cancelled at d ws)

  pub line_cancelled : (slots : List Slot) (ws : List Waiter) → waiters_in slots ≡ on_lun lun ws → waiters_in (others_of id slots) ≡ on_lun lun (filter stays ws)
  line_cancelled slots ws e = others_wait id slots ∙ (ap (filter other) e ∙ sym (on_cancelled ws))

-- what waits is for a LUN that is there, and for none that is
pub nothing_waits : (n : ℕ) (ws : List Waiter) → All (λ w. w.want.lun < n) ws → All (λ w. n ≤ w.lun) (wants_of ws) → ws ≡ []
nothing_waits n [] h k = refl
nothing_waits n (w ∷ ws) h k = let a = h.0 in let b = k.0 in absurd (omega arith)
