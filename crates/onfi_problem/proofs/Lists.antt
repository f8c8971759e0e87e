-- Lists and their maps.
use Rattle.std.proofs.Common.{◌≡◌, ℕ, zero, suc, ◌<◌, arith, Bool, List, [], ◌∷◌, length, get_or, map, Some, refl, ap, ◌∙◌, length-set, drop}
use Rattle.std.specs.Prelude.{slice_get, slice_set, IfSome, option_map}
use Rattle.std.specs.List.{refill, list_any, AllByRecursion as All}
use Rattle.std.proofs.lemmas.List.{take_at}
pub use Rattle.std.proofs.lemmas.List.{map-set as map_set}
use Rattle.std.proofs.lemmas.Option.{slice_get-map}
use Rattle.onfi_group.specs.Words.{total}
use Rattle.onfi_group.proofs.Lists.{All-has, Has-get}

pub map_get : {A B : Type 0} (f : A → B) (xs : List A) (i : ℕ) (x : A) → slice_get xs i ≡ Some x → slice_get (map f xs) i ≡ Some (f x)
map_get f xs i x h = slice_get-map f xs i ∙ ap (option_map f) h

-- what a read finds where the mapped list has an element
pub map_found : {A B : Type 0} (f : A → B) (xs : List A) (i : ℕ) (d : A) (y : B) → slice_get (map f xs) i ≡ Some y → f (get_or xs i d) ≡ y
map_found f [] i d y h = cc
map_found f (z ∷ xs) zero d y h = cc
map_found f (z ∷ xs) (suc i) d y h = map_found f xs i d y h

-- what an inline list holds after one element was written
pub refilled : {A : Type 0} (xs ys : List A) (i : ℕ) (v : A) → ys ≡ xs → refill (length xs) xs (slice_set ys i v) ≡ slice_set xs i v
refilled xs ys i v e = rw e (take_at (slice_set xs i v) (drop (length (slice_set xs i v)) xs) (length xs) (length-set xs i v))

-- what holds of all holds of one by its place
pub some_of_all : {A : Type 0} (P : A → Type 0) (xs : List A) (i : ℕ) → All P xs → IfSome (slice_get xs i) P
some_of_all P [] i h = tt
some_of_all P (x ∷ xs) zero h = h.0
some_of_all P (x ∷ xs) (suc i) h = some_of_all P xs i h.1

-- what holds of each mapped element
pub All-map : {A B : Type 0} (f : A → B) (P : B → Type 0) (xs : List A) → All P (map f xs) → All (λ x. P (f x)) xs
All-map f P [] h = tt
All-map f P (x ∷ xs) h = (h.0, All-map f P xs h.1)

pub all_at : {A : Type 0} (P : A → Type 0) (xs : List A) (i : ℕ) (d : A) → i < length xs → All P xs → P (get_or xs i d)
all_at P xs i d h a = All-has P xs (get_or xs i d) a (Has-get xs i d h)

-- sums and tests of a list by what is made of each element
pub total_by : {A B : Type 0} (f : A → ℕ) (g : B → ℕ) (h : A → B) → ((x : A) → f x ≡ g (h x)) → (xs : List A) → total f xs ≡ total g (map h xs)
total_by f g h e [] = refl
total_by f g h e (x ∷ xs) = let a = e x in let b = total_by f g h e xs in omega arith

pub any_by : {A B : Type 0} (f : A → Bool) (g : B → Bool) (h : A → B) → ((x : A) → f x ≡ g (h x)) → (xs : List A) → list_any f xs ≡ list_any g (map h xs)
any_by f g h e [] = refl
any_by f g h e (x ∷ xs) = rw (e x, any_by f g h e xs) refl
