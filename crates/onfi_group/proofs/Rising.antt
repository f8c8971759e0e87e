-- A number of wants that rises, one after the other.
use Rattle.std.proofs.Common.{◌≡◌, ℕ, zero, suc, ◌-◌, ◌<◌, ◌≤◌, ◌↔◌, List, [], ◌∷◌, length, drop, get_or, subst, arith}
use Rattle.onfi_request.specs.declared.want.Want.{Want}
use Rattle.onfi_group.specs.Words.{Pairs}
use Rattle.onfi_group.proofs.Lists.{All-weaker}

abbrev pub Rises : (Want → ℕ) → List Want → Type 0
Rises of wants = Pairs (λ a b. of a < of b) wants

abbrev pub PlanesRise : List Want → Type 0
PlanesRise members = Rises (λ w. w.plane) members

module _ (of : Want → ℕ) where
  rest_rises : (xs : List Want) (i : ℕ) (d : Want) → suc i < length xs → of (get_or xs i d) < of (get_or xs (suc i) d) → Rises of (drop i xs) ↔ Rises of (drop (suc i) xs)
  rest_rises [] i d h lt = absurd (omega arith)
  rest_rises (a ∷ []) i d h lt = absurd (omega arith)
  rest_rises (a ∷ b ∷ xs) zero d h lt = ((λ r. r.1), (λ r. ((lt, All-weaker (λ x. of b < of x) (λ x. of a < of x) (λ x k. omega arith) xs r.0), r)))
  rest_rises (a ∷ b ∷ xs) (suc i) d h lt = rest_rises (b ∷ xs) i d (omega arith) lt

  falls_somewhere : (xs : List Want) (i : ℕ) (d : Want) → suc i < length xs → of (get_or xs (suc i) d) ≤ of (get_or xs i d) → Rises of (drop i xs) → ⊥
  falls_somewhere [] i d h le r = omega arith
  falls_somewhere (a ∷ []) i d h le r = omega arith
  falls_somewhere (a ∷ b ∷ xs) zero d h le r = let q = r.0.0 in omega arith
  falls_somewhere (a ∷ b ∷ xs) (suc i) d h le r = falls_somewhere (b ∷ xs) i d (omega arith) le r

  one_rises : (xs : List Want) (i : ℕ) → length xs ≤ suc i → Rises of (drop i xs)
  one_rises [] zero h = tt
  one_rises [] (suc i) h = tt
  one_rises (a ∷ []) zero h = (tt, tt)
  one_rises (a ∷ []) (suc zero) h = tt
  one_rises (a ∷ []) (suc (suc i)) h = tt
  one_rises (a ∷ b ∷ xs) zero h = absurd (omega arith)
  one_rises (a ∷ b ∷ xs) (suc i) h = one_rises (b ∷ xs) i (omega arith)

  -- where it rises from before a place to the place, all from before it do exactly where all from it do
  pub rises_at : (xs : List Want) (at : ℕ) (d : Want) → 1 ≤ at → at < length xs → of (get_or xs (at - 1) d) < of (get_or xs at d) → Rises of (drop (at - 1) xs) ↔ Rises of (drop at xs)
  rises_at xs at d h =
      let e : suc (at - 1) ≡ at = omega arith in
      subst (λ n. n < length xs → of (get_or xs (at - 1) d) < of (get_or xs n d) → Rises of (drop (at - 1) xs) ↔ Rises of (drop n xs)) e (rest_rises xs (at - 1) d)

  pub falls_at : (xs : List Want) (at : ℕ) (d : Want) → 1 ≤ at → at < length xs → of (get_or xs at d) ≤ of (get_or xs (at - 1) d) → Rises of (drop (at - 1) xs) → ⊥
  falls_at xs at d h =
      let e : suc (at - 1) ≡ at = omega arith in
      subst (λ n. n < length xs → of (get_or xs n d) ≤ of (get_or xs (at - 1) d) → Rises of (drop (at - 1) xs) → ⊥) e (falls_somewhere xs (at - 1) d)

  pub last_rises : (xs : List Want) (at : ℕ) → 1 ≤ at → length xs ≤ at → Rises of (drop (at - 1) xs)
  last_rises xs at h k = one_rises xs (at - 1) (omega arith)
