-- The least and the greatest number of members, one member more.
use Rattle.std.proofs.Common.{◌≡◌, ℕ, ◌+◌, ◌<◌, List, [], ◌∷◌, ◌++◌, length, take, get_or, refl, ap, ◌∙◌}
use Rattle.std.specs.Prelude.{max, min}
use Rattle.std.proofs.lemmas.List.{take_more}
use Rattle.onfi_request.specs.declared.want.Want.{Want}
use Rattle.onfi_steady.specs.Ranks.{least_number}
use Rattle.onfi_steady.specs.Waiting.{greatest_number}

least_push : (least : ℕ) (ms : List Want) (m : Want) → least_number least (ms ++ m ∷ []) ≡ min (least_number least ms) m.id
least_push least [] m = refl
least_push least (x ∷ xs) m = least_push (min least x.id) xs m

pub least_more : (least : ℕ) (ms : List Want) (i : ℕ) (d : Want) → i < length ms →
    least_number least (take (i + 1) ms) ≡ min (least_number least (take i ms)) (get_or ms i d).id
least_more least ms i d h = ap (least_number least) (take_more ms i d h) ∙ least_push least (take i ms) (get_or ms i d)

greatest_push : (most : ℕ) (ms : List Want) (m : Want) → greatest_number most (ms ++ m ∷ []) ≡ max (greatest_number most ms) m.id
greatest_push most [] m = refl
greatest_push most (x ∷ xs) m = greatest_push (max most x.id) xs m

pub greatest_more : (most : ℕ) (ms : List Want) (i : ℕ) (d : Want) → i < length ms →
    greatest_number most (take (i + 1) ms) ≡ max (greatest_number most (take i ms)) (get_or ms i d).id
greatest_more most ms i d h = ap (greatest_number most) (take_more ms i d h) ∙ greatest_push most (take i ms) (get_or ms i d)
