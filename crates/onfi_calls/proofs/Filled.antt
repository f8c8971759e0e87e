-- Places that are filled one by one.
use Rattle.std.proofs.Common.{◌≡◌, ◌<◌, ◌≤◌, ℕ, zero, suc, ◌+◌, List, [], ◌∷◌, ◌++◌, length, map, take, get_or, refl, sym, ap, ◌∙◌, arith, length-take-le}
use Rattle.std.specs.Prelude.{slice_set}
use Rattle.std.proofs.lemmas.List.{length-map, length-replicate, take_all}
use Rattle.onfi_flight.proofs.Lists.{mapped_more}
use Rattle.onfi_calls.specs.PlainSchedule.{filled}

-- the place after them is filled
pub filled_next : {A : Type 0} (n : ℕ) (rest y : A) (xs : List A) → length xs < n → slice_set (filled n rest xs) (length xs) y ≡ filled n rest (xs ++ y ∷ [])
filled_next zero rest y xs low = absurd (omega (arith, low))
filled_next (suc n) rest y [] low = refl
filled_next (suc n) rest y (x ∷ xs) low = ap (λ zs. x ∷ zs) (filled_next n rest y xs (omega (arith, low)))

-- as many as there are places
pub filled_length : {A : Type 0} (n : ℕ) (rest : A) (xs : List A) → length xs ≤ n → length (filled n rest xs) ≡ n
filled_length n rest [] low = length-replicate n rest
filled_length zero rest (x ∷ xs) low = absurd (omega (arith, low))
filled_length (suc n) rest (x ∷ xs) low = ap suc (filled_length n rest xs (omega (arith, low)))

pub filled_whole : {A : Type 0} (rest : A) (xs : List A) → filled (length xs) rest xs ≡ xs
filled_whole rest [] = refl
filled_whole rest (x ∷ xs) = ap (λ zs. x ∷ zs) (filled_whole rest xs)

-- the next place is filled
pub filled_more : {A B : Type 0} (f : A → B) (n : ℕ) (rest : B) (xs : List A) (at : ℕ) (d : A) (y : B) (made : List B) → at < length xs → length xs ≤ n → y ≡ f (get_or xs at d)
    → made ≡ filled n rest (map f (take at xs)) → slice_set made at y ≡ filled n rest (map f (take (at + 1) xs))
filled_more f n rest xs at d y made low few is so_far =
    let front = map f (take at xs) in
    let count : length front ≡ at = length-map (take at xs) f ∙ length-take-le at xs (omega (arith, low)) in
    let next = filled_next n rest y front (omega (arith, count, low, few)) in
    ap (λ zs. slice_set zs at y) so_far ∙ ap (λ i. slice_set (filled n rest front) i y) (sym count) ∙ next ∙ ap (filled n rest) (mapped_more f xs at front d y low is refl)

-- all are
pub filled_all : {A B : Type 0} (f : A → B) (n : ℕ) (rest : B) (xs : List A) (at : ℕ) (made : List B) → length xs ≤ at → made ≡ filled n rest (map f (take at xs)) → made ≡ filled n rest (map f xs)
filled_all f n rest xs at made over so_far = so_far ∙ ap (λ zs. filled n rest (map f zs)) (take_all at xs over)
