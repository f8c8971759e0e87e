-- Items as wants, numbered by their places.
use Rattle.std.proofs.Common.{◌≡◌, ℕ, zero, suc, ◌+◌, ◌<◌, ◌≤◌, List, [], ◌∷◌, ◌++◌, length, Some, take, drop, refl, sym, ap, ◌∙◌, append_assoc, length-append, arith}
use Rattle.std.specs.Prelude.{slice_get}
use Rattle.std.specs.List.{AllByRecursion as All}
use Rattle.onfi_request.specs.declared.request.Item.{Item}
use Rattle.onfi_request.specs.declared.want.Want.{Want}
use Rattle.onfi_problem.proofs.Places.{within_get}
use Rattle.onfi_problem.proofs.Wants.{Rising}
use Rattle.onfi_core.specs.Kept.{IsTaken}
use Rattle.onfi_addr.specs.declared.geometry.Geometry.{Geometry}
use Rattle.onfi_core.specs.State.{want_of, wants_from}
use Rattle.onfi_core.specs.declared.setup.Setup.{Setup}
use Rattle.onfi_core.proofs.Lists.{All-take, get_at_length}

pub length_wants : (geometry : Geometry) (n : ℕ) (xs : List Item) → length (wants_from geometry n xs) ≡ length xs
length_wants geometry n [] = refl
length_wants geometry n (x ∷ xs) = ap suc (length_wants geometry (n + 1) xs)

pub wants_from-append : (geometry : Geometry) (n : ℕ) (xs ys : List Item) → wants_from geometry n (xs ++ ys) ≡ wants_from geometry n xs ++ wants_from geometry (n + length xs) ys
wants_from-append geometry n [] ys = let e : n + 0 ≡ n = omega arith in rw e refl
wants_from-append geometry n (x ∷ xs) ys = let e : n + suc (length xs) ≡ n + 1 + length xs = omega arith in rw e (ap (λ zs. want_of geometry n x ∷ zs) (wants_from-append geometry (n + 1) xs ys))

-- the first m of them, and the others
pub split_at : (geometry : Geometry) (n m : ℕ) (xs : List Item) → wants_from geometry n xs ≡ take m (wants_from geometry n xs) ++ wants_from geometry (n + length (take m (wants_from geometry n xs))) (drop (length (take m (wants_from geometry n xs))) xs)
split_at geometry n zero xs = let e : n + 0 ≡ n = omega arith in rw e refl
split_at geometry n (suc m) [] = refl
split_at geometry n (suc m) (x ∷ xs) =
    let k = length (take m (wants_from geometry (n + 1) xs)) in
    let e : n + suc k ≡ n + 1 + k = omega arith in
    rw e (ap (λ zs. want_of geometry n x ∷ zs) (split_at geometry (n + 1) m xs))

-- the first m of the items after n others, as wants that a plan took
pub taken_are : (s : Setup) (all : List Item) (n m bound : ℕ) (pre xs : List Item) → all ≡ pre ++ xs → n ≡ length pre → n + length (take m (wants_from s.geometry n xs)) ≡ bound → All (IsTaken s bound all) (take m (wants_from s.geometry n xs))
taken_are s all n zero bound pre xs e f g = tt
taken_are s all n (suc m) bound pre [] e f g = tt
taken_are s all n (suc m) bound pre (x ∷ xs) e f g =
    let at : slice_get all n ≡ Some x = rw (e, f) (get_at_length pre x xs) in (
      record { below = omega arith; item = x; there = at; is = refl },
      taken_are s all (n + 1) m bound (pre ++ x ∷ []) xs (e ∙ sym (append_assoc pre (x ∷ []) xs)) (omega (arith, length-append pre (x ∷ []))) (omega arith),
    )

-- what holds of each item's want
pub All-wants : (geometry : Geometry) (P : Want → Type 0) (Q : Item → Type 0) → ((n : ℕ) (x : Item) → Q x → P (want_of geometry n x)) → (n : ℕ) (xs : List Item) → All Q xs → All P (wants_from geometry n xs)
All-wants geometry P Q each n [] h = tt
All-wants geometry P Q each n (x ∷ xs) h = (each n x h.0, All-wants geometry P Q each (n + 1) xs h.1)

from_above : (geometry : Geometry) (n k : ℕ) (xs : List Item) → n ≤ k → All (λ (w : Want). n ≤ w.id) (wants_from geometry k xs)
from_above geometry n k [] h = tt
from_above geometry n k (x ∷ xs) h = (h, from_above geometry n (k + 1) xs (omega arith))

-- numbers rise, and are those from n on
pub not_below : (geometry : Geometry) (n m k : ℕ) (xs : List Item) → n ≤ k → All (λ (w : Want). n ≤ w.id) (take m (wants_from geometry k xs))
not_below geometry n m k xs h = All-take (λ (w : Want). n ≤ w.id) m (wants_from geometry k xs) (from_above geometry n k xs h)

above : (a : ℕ) (v : Want) (ws : List Want) → v.id ≡ a → All (λ (w : Want). a + 1 ≤ w.id) ws → All (λ (w : Want). v.id < w.id) ws
above a v [] e h = tt
above a v (w ∷ ws) e h = let q = h.0 in (omega arith, above a v ws e h.1)

pub numbers_rise : (geometry : Geometry) (n m : ℕ) (xs : List Item) → Rising (take m (wants_from geometry n xs))
numbers_rise geometry n zero xs = tt
numbers_rise geometry n (suc m) [] = tt
numbers_rise geometry n (suc m) (x ∷ xs) = (above n (want_of geometry n x) _ refl (not_below geometry (n + 1) m (n + 1) xs (omega arith)), numbers_rise geometry (n + 1) m xs)

pub Rising-append : (n : ℕ) (us vs : List Want) → Rising us → Rising vs → All (λ (w : Want). w.id < n) us → All (λ (w : Want). n ≤ w.id) vs → Rising (us ++ vs)
Rising-append n [] vs a b c d = b
Rising-append n (u ∷ us) vs a b c d = (all_above us vs a.0 d, Rising-append n us vs a.1 b c.1 d)
  where
    all_above : (us vs : List Want) → All (λ (w : Want). u.id < w.id) us → All (λ (w : Want). n ≤ w.id) vs → All (λ (w : Want). u.id < w.id) (us ++ vs)
    all_above [] [] k l = tt
    all_above [] (v ∷ vs) k l = let q = c.0 in let r = l.0 in (omega arith, all_above [] vs tt l.1)
    all_above (w ∷ us) vs k l = (k.0, all_above us vs k.1 l)

-- all are below the length
pub below_length : (geometry : Geometry) (n : ℕ) (xs : List Item) (bound : ℕ) → n + length xs ≡ bound → All (λ (w : Want). w.id < bound) (wants_from geometry n xs)
below_length geometry n [] bound e = tt
below_length geometry n (x ∷ xs) bound e = (omega arith, below_length geometry (n + 1) xs bound (omega arith))

-- the items after n others, where all were taken
pub all_taken : (s : Setup) (all : List Item) (n : ℕ) (pre xs : List Item) → all ≡ pre ++ xs → n ≡ length pre → All (IsTaken s (length all) all) (wants_from s.geometry n xs)
all_taken s all n pre [] e f = tt
all_taken s all n pre (x ∷ xs) e f =
    let at : slice_get all n ≡ Some x = rw (e, f) (get_at_length pre x xs) in (
      record { below = within_get all n x at; item = x; there = at; is = refl },
      all_taken s all (n + 1) (pre ++ x ∷ []) xs (e ∙ sym (append_assoc pre (x ∷ []) xs)) (omega (arith, length-append pre (x ∷ []))),
    )

-- .. one more above all others
pub Rising-push : (ws : List Want) (v : Want) → Rising ws → All (λ (w : Want). w.id < v.id) ws → Rising (ws ++ v ∷ [])
Rising-push ws v rise low = Rising-append v.id ws (v ∷ []) rise (tt, tt) low (omega arith, tt)
