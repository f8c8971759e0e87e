-- Lists and their places.
use Rattle.std.proofs.Common.{◌≡◌, ℕ, zero, suc, ◌+◌, ◌<◌, ◌⊎◌, List, [], ◌∷◌, ◌++◌, length, Some, take, refl, ap, arith}
use Rattle.std.specs.Prelude.{slice_get, slice_index_or}
use Rattle.std.specs.List.{AllByRecursion as All}
pub use Rattle.onfi_problem.proofs.Places.{drop_next, get_has}
pub use Rattle.onfi_flight.proofs.Lists.{All-drop, All-map, All-take, Pairs-map, cut_there, index_get, set_self}
pub use Rattle.onfi_lun.proofs.Places.{each_set}
use Rattle.onfi_problem.proofs.Perm.{All-has}

pub get_at_length : {A : Type 0} (xs : List A) (x : A) (ys : List A) → slice_get (xs ++ x ∷ ys) (length xs) ≡ Some x
get_at_length [] x ys = refl
get_at_length (y ∷ xs) x ys = get_at_length xs x ys

pub index_at_length : {A : Type 0} (xs : List A) (x : A) (ys : List A) (d : A) → slice_index_or (xs ++ x ∷ ys) (length xs) d ≡ x
index_at_length [] x ys d = refl
index_at_length (y ∷ xs) x ys d = index_at_length xs x ys d

pub not_nil : {A : Type 0} (xs : List A) (y : A) (ys : List A) → [] ≡ xs ++ y ∷ ys → ⊥
not_nil [] y ys h = cc
not_nil (x ∷ xs) y ys h = cc

pub head_same : {A : Type 0} (x y : A) (xs ys : List A) → x ∷ xs ≡ y ∷ ys → x ≡ y
head_same x y xs ys h = cc

pub tail_same : {A : Type 0} (x y : A) (xs ys : List A) → x ∷ xs ≡ y ∷ ys → xs ≡ ys
tail_same x y xs ys h = cc

take_suc : {A : Type 0} (xs : List A) (i : ℕ) (x : A) → slice_get xs i ≡ Some x → take (suc i) xs ≡ take i xs ++ x ∷ []
take_suc [] i x h = cc
take_suc (y ∷ xs) zero x h = let e : y ≡ x = cc in ap (λ z. z ∷ []) e
take_suc (y ∷ xs) (suc i) x h = ap (λ zs. y ∷ zs) (take_suc xs i x h)

pub take_next : {A : Type 0} (xs : List A) (i : ℕ) (x : A) → slice_get xs i ≡ Some x → take (i + 1) xs ≡ take i xs ++ x ∷ []
take_next xs i x h = let e : i + 1 ≡ suc i = omega arith in rw e (take_suc xs i x h)

pub All-at : {A : Type 0} (P : A → Type 0) (xs : List A) (i : ℕ) (x : A) → All P xs → slice_get xs i ≡ Some x → P x
All-at P xs i x h at = All-has P xs x h (get_has xs i x at)

-- what is so of what stands at each place is so of each
pub each_there : {A : Type 0} (P : A → Type 0) (xs : List A) → ((i : ℕ) (x : A) → slice_get xs i ≡ Some x → P x) → All P xs
each_there P [] h = tt
each_there P (x ∷ xs) h = (h zero x refl, each_there P xs (λ i y at. h (suc i) y at))

-- a place below the next is below, or is it
pub next_cases : (at n : ℕ) → at < n + 1 → (at < n) ⊎ (at ≡ n)
next_cases at n h = grind arith
