-- Beginnings of lists, and places in them.
use Rattle.std.proofs.Common.{◌≡◌, ℕ, zero, suc, List, [], ◌∷◌, ◌++◌, Some, take, refl, ap}
use Rattle.std.specs.Prelude.{slice_get}
use Rattle.std.specs.List.{AllByRecursion as Each}

pub get_more : {A : Type 0} (xs ys : List A) (i : ℕ) (x : A) → slice_get xs i ≡ Some x → slice_get (xs ++ ys) i ≡ Some x
get_more [] ys i x h = cc
get_more (y ∷ xs) ys zero x h = h
get_more (y ∷ xs) ys (suc i) x h = get_more xs ys i x h

pub take_of_more : {A : Type 0} (xs ys : List A) (i : ℕ) (x : A) → slice_get xs i ≡ Some x → take i (xs ++ ys) ≡ take i xs
take_of_more [] ys i x h = cc
take_of_more (y ∷ xs) ys zero x h = refl
take_of_more (y ∷ xs) ys (suc i) x h = ap (λ zs. y ∷ zs) (take_of_more xs ys i x h)

pub Each-map : {A : Type 0} (P Q : A → Type 0) → ((x : A) → P x → Q x) → (xs : List A) → Each P xs → Each Q xs
Each-map P Q f [] h = tt
Each-map P Q f (x ∷ xs) h = (f x h.0, Each-map P Q f xs h.1)
