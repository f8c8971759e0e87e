-- Requests that leave a list of rising numbers.
use Rattle.std.proofs.Common.{◌≡◌, ℕ, zero, suc, ◌+◌, ◌-◌, ◌<◌, ◌≤◌, inl, inr, Bool, true, false, List, [], ◌∷◌, ◌++◌, length, get_or, take, drop, None, Some, refl, sym, ap, ◌∙◌, subst, append_assoc, arith}
use Rattle.std.specs.Prelude.{◌==◌, if◌then◌else◌, not, remove}
use Rattle.std.specs.List.{AllByRecursion as All, copy_within, position, position_or_len}
use Rattle.std.proofs.lemmas.Bool.{eq-eqb, eqb-true, false≢true, ne_eqb}
use Rattle.std.proofs.lemmas.List.{drop_at, drop-drop, drop-append-le, length-append, length-drop, length-take-le}
use Rattle.std.proofs.lemmas.Grind.{common_steps}
use Rattle.std.proofs.lemmas.List.Quantifiers.{position-Some}
use Rattle.std.proofs.lemmas.List.Sums.{fails_before_first}
use Rattle.onfi_request.specs.declared.want.Want.{Want}
use Rattle.onfi_group.specs.Words.{Has, Pairs}
use Rattle.onfi_group.specs.Group.{is_member}
use Rattle.onfi_group.proofs.Lists.{All-has, Has-get, Pairs-append}
use Rattle.onfi_problem.specs.Moves.{without}
use Rattle.onfi_problem.proofs.Wants.{Rising}
use Rattle.onfi_audit.proofs.Filters.{filter_all}

-- Lists

pub pairs_front : {A : Type 0} (R : A → A → Type 0) (xs ys : List A) → Pairs R (xs ++ ys) → Pairs R xs
pairs_front R [] ys h = tt
pairs_front R (x ∷ xs) ys h = (all_front (R x) xs ys h.0, pairs_front R xs ys h.1)
  where
    all_front : {B : Type 0} (P : B → Type 0) (us vs : List B) → All P (us ++ vs) → All P us
    all_front P [] vs k = tt
    all_front P (u ∷ us) vs k = (k.0, all_front P us vs k.1)

pub same_front : {A : Type 0} (xs ys : List A) (x y : A) → xs ++ x ∷ [] ≡ ys ++ y ∷ [] → xs ≡ ys
same_front [] [] x y h = refl
same_front [] (z ∷ []) x y h = cc
same_front [] (z ∷ u ∷ ys) x y h = cc
same_front (z ∷ []) [] x y h = cc
same_front (z ∷ u ∷ xs) [] x y h = cc
same_front (z ∷ xs) (u ∷ ys) x y h =
    let e : z ≡ u = cc in
    let rest : xs ++ x ∷ [] ≡ ys ++ y ∷ [] = cc in
    ap (λ v. v ∷ xs) e ∙ ap (λ us. u ∷ us) (same_front xs ys x y rest)

-- those in front of a place moved by one, from where they began
pub moved_is : {A : Type 0} (xs : List A) (gone at : ℕ) → gone + at < length xs → drop (gone + 1) (copy_within xs gone (gone + at) (gone + 1)) ≡ remove (drop gone xs) at
moved_is xs gone at low =
    let n : gone + at - gone ≡ at = omega arith in
    let m : gone + 1 + at ≡ gone + suc at = omega arith in
    ap (λ k. drop (gone + 1) (take (gone + 1) xs ++ take k (drop gone xs) ++ drop (gone + 1 + k) xs)) n
    ∙ ap (drop (gone + 1)) (append_assoc (take (gone + 1) xs) (take at (drop gone xs)) (drop (gone + 1 + at) xs))
    ∙ drop_at (take (gone + 1) xs) (take at (drop gone xs) ++ drop (gone + 1 + at) xs) (gone + 1) (length-take-le (gone + 1) xs (omega arith))
    ∙ ap (λ k. take at (drop gone xs) ++ drop k xs) m
    ∙ ap (λ ys. take at (drop gone xs) ++ ys) (sym (drop-drop (suc at) gone xs))

pub pairs_removed : {A : Type 0} (R : A → A → Type 0) (xs : List A) (at : ℕ) → Pairs R xs → Pairs R (remove xs at)
pairs_removed R [] zero h = tt
pairs_removed R [] (suc at) h = tt
pairs_removed R (x ∷ xs) zero h = h.1
pairs_removed R (x ∷ xs) (suc at) h = (all_removed (R x) xs at h.0, pairs_removed R xs at h.1)
  where
    all_removed : {B : Type 0} (P : B → Type 0) (us : List B) (i : ℕ) → All P us → All P (remove us i)
    all_removed P [] zero k = tt
    all_removed P [] (suc i) k = tt
    all_removed P (u ∷ us) zero k = k.1
    all_removed P (u ∷ us) (suc i) k = (k.0, all_removed P us i k.1)

pub has_last : {A : Type 0} (xs : List A) (x : A) → Has (xs ++ x ∷ []) x
has_last [] x = inl refl
has_last (y ∷ xs) x = inr (has_last xs x)

-- where it stands
pub record Place {A : Type 0} (xs : List A) (x : A) : Type 0 where
  pub at : ℕ
  pub low : at < length xs
  pub there : get_or xs at x ≡ x

place_of : {A : Type 0} (xs : List A) (x : A) → Has xs x → Place xs x
place_of [] x h = absurd h
place_of (y ∷ xs) x (inl e) = record { at = 0; low = omega arith; there = e }
place_of (y ∷ xs) x (inr h) = let p = place_of xs x h in let low = p.low in record { at = suc p.at; low = omega arith; there = p.there }

-- where none passes a test
pub none_passes : {A : Type 0} (p : A → Bool) (xs : List A) (x : A) → position p xs ≡ None → Has xs x → p x ≡ false
none_passes p xs x e h =
    let place = place_of xs x h in
    let low = place.low in
    let past : length xs ≤ position_or_len p xs = grind (arith, common_steps) in
    subst (λ y. p y ≡ false) place.there (fails_before_first p xs place.at x (omega arith))

-- Numbers

-- none with that number
pub none_leaves : (wants : List Want) (want : Want) → ((w : Want) → Has wants w → w.id ≡ want.id → ⊥) → without (want ∷ []) wants ≡ wants
none_leaves wants want none = filter_all (λ w. not (is_member (want ∷ []) w)) wants (λ w there. let e = ne_eqb want.id w.id (λ q. none w there (sym q)) in rw e refl)

-- the one with that number at that place, and no other
pub leaves_at : (wants : List Want) (at : ℕ) (want d : Want) → Rising wants → at < length wants → (get_or wants at d).id ≡ want.id → remove wants at ≡ without (want ∷ []) wants
leaves_at [] at want d rise low e = absurd (omega arith)
leaves_at (w ∷ wants) zero want d rise low e =
    let same = eq-eqb want.id w.id (sym e) in
    let rest = none_leaves wants want (λ v there q. let less = All-has (λ (u : Want). w.id < u.id) wants v rise.0 there in absurd (omega arith)) in
    rw same (sym rest)
leaves_at (w ∷ wants) (suc at) want d rise low e =
    let less = All-has (λ (u : Want). w.id < u.id) wants (get_or wants at d) rise.0 (Has-get wants at d (omega arith)) in
    let other = ne_eqb want.id w.id (λ q. absurd (omega arith)) in
    rw other (ap (λ ws. w ∷ ws) (leaves_at wants at want d rise.1 (omega arith) e))

-- who leaves is found by that number
module _ (wants : List Want) (number : ℕ) (want : Want) (rise : Rising wants) (same : want.id ≡ number) where
  pub found_leaves : (at : ℕ) → position (λ w. w.id == number) wants ≡ Some at → remove wants at ≡ without (want ∷ []) wants
  found_leaves at found =
      let is = position-Some (λ w. w.id == number) wants at want found in
      leaves_at wants at want want rise is.0 (eqb-true (get_or wants at want).id number is.1 ∙ sym same)

  pub missed_leaves : position (λ w. w.id == number) wants ≡ None → wants ≡ without (want ∷ []) wants
  missed_leaves none = sym (none_leaves wants want (λ w there e.
      let passes = eq-eqb w.id number (e ∙ same) in
      let fails = none_passes (λ w. w.id == number) wants w none there in
      false≢true (sym fails ∙ passes)))

  pub found_low : (at : ℕ) → position (λ w. w.id == number) wants ≡ Some at → at < length wants
  found_low at found = (position-Some (λ w. w.id == number) wants at want found).0

-- The list with those that are gone

below_last : (wants : List Want) (last : Want) → Rising (wants ++ last ∷ []) → All (λ (w : Want). w.id < last.id) wants
below_last [] last rise = tt
below_last (w ∷ wants) last rise = (All-has (λ (v : Want). w.id < v.id) (wants ++ last ∷ []) last rise.0 (has_last wants last), below_last wants last rise.1)

-- one more at its end
module _ (all new : List Want) (gone : ℕ) (w : Want) (within : gone ≤ length all) (rise : Rising (drop gone all)) (greater : All (λ (v : Want). v.id < w.id) (drop gone all)) where
  pub pushed : (b : Bool) → new ≡ (if b then all ++ w ∷ [] else all) → (gone ≤ length new) × Rising (drop gone new)
  pushed true e =
      let size = length-append all (w ∷ []) in
      let more : Rising (drop gone all ++ w ∷ []) = Pairs-append (λ (u v : Want). u.id < v.id) (drop gone all) (w ∷ []) rise (tt, tt)
      (λ u v there last. elim last [ inl is ↦ subst (λ (x : Want). u.id < x.id) is (All-has (λ (x : Want). x.id < w.id) (drop gone all) u greater there) | inr none ↦ absurd none ]) in
      (omega (arith, ap length e), subst Rising (sym (ap (drop gone) e ∙ drop-append-le gone all (w ∷ []) within)) more)
  pushed false e = (omega (arith, ap length e), subst Rising (sym (ap (drop gone) e)) rise)

-- the last one, and those before it
record Last {A : Type 0} (xs : List A) : Type 0 where
  pub last : A
  pub split : xs ≡ take (length xs - 1) xs ++ last ∷ []

last_of : {A : Type 0} (xs : List A) → 1 ≤ length xs → Last xs
last_of [] h = absurd (omega arith)
last_of (x ∷ []) h = record { last = x; split = refl }
last_of (x ∷ y ∷ xs) h =
    let l = last_of (y ∷ xs) (omega arith) in
    let n : length (x ∷ y ∷ xs) - 1 ≡ suc (length (y ∷ xs) - 1) = omega arith in
    record { last = l.last; split = ap (λ us. x ∷ us) l.split ∙ ap (λ k. take k (x ∷ y ∷ xs) ++ l.last ∷ []) (sym n) }

-- one less
module _ (all new : List Want) (gone : ℕ) (some : 1 ≤ length (drop gone all)) (rise : Rising (drop gone all)) (shorter : new ≡ take (length all - 1) all) where
  is_last : Last all
  is_last = let low = length-drop gone all in last_of all (omega arith)

  abbrev x : Want
  x = is_last.last

  split : all ≡ new ++ x ∷ []
  split = is_last.split ∙ ap (λ us. us ++ x ∷ []) (sym shorter)

  within : gone ≤ length new
  within = let size = length-append new (x ∷ []) in let low = length-drop gone all in omega (arith, ap length split)

  front : drop gone all ≡ drop gone new ++ x ∷ []
  front = ap (drop gone) split ∙ drop-append-le gone new (x ∷ []) within

  pub popped : (gone ≤ length new) × Rising (drop gone new)
  popped = (within, pairs_front (λ (u v : Want). u.id < v.id) (drop gone new) (x ∷ []) (subst Rising front rise))

  module _ (before : List Want) (want : Want) (is : drop gone all ≡ before ++ want ∷ []) where
    pub left : drop gone new ≡ before
    left = same_front (drop gone new) before x want (sym front ∙ is)

    pub less : All (λ (v : Want). v.id < want.id) before
    less = below_last before want (subst Rising is rise)
