-- The views of all passes, where one of them changes and where one is added.
use Rattle.std.proofs.Common.{◌≡◌, ◌≢◌, ℕ, zero, suc, ◌⊎◌, List, [], ◌∷◌, ◌++◌, length, set, sym, refl, ap, subst, inl, inr, ⊎_elim}
use mathlib.Core.Option.{some, some-injective, some-ne-none}
use lib.ListN.{get_elem?}
use Rattle.crossbeam_queue.proofs.Lists.{at_set}

module _ {A : Type 0} where
  -- the fact is true at each place
  abbrev pub Every : (ℕ → A → Type 0) → List A → Type 0
  Every F xs = (at : ℕ) (x : A) → get_elem? xs at ≡ some x → F at x

  pub every-set : (F : ℕ → A → Type 0) (xs : List A) (at : ℕ) (w : A)
      → F at w → ((j : ℕ) (u : A) → j ≢ at → get_elem? xs j ≡ some u → F j u) → Every F (set xs at w)
  every-set F xs at w mine others j u e =
      ⊎_elim (λ (x : (j ≡ at) × (w ≡ u)). subst (λ (y : ℕ × A). F y.0 y.1) (λ i. (sym x.0 i, x.1 i)) mine)
      (λ (x : (j ≢ at) × (get_elem? xs j ≡ some u)). others j u x.0 x.1) (at_set xs at j w u e)

  at_snoc : (xs : List A) (a b : A) (j : ℕ) → get_elem? (xs ++ a ∷ []) j ≡ some b → (get_elem? xs j ≡ some b) ⊎ ((j ≡ length xs) × (a ≡ b))
  at_snoc [] a b zero e = inr (refl, some-injective a b e)
  at_snoc [] a b (suc j) e = absurd (some-ne-none b (sym e))
  at_snoc (x ∷ xs) a b zero e = inl e
  at_snoc (x ∷ xs) a b (suc j) e = ⊎_elim (λ t. inl t) (λ t. inr (ap suc t.0, t.1)) (at_snoc xs a b j e)

  pub every-snoc : (F : ℕ → A → Type 0) (xs : List A) (w : A) → Every F xs → F (length xs) w → Every F (xs ++ w ∷ [])
  every-snoc F xs w old new j u e =
      ⊎_elim (λ (t : get_elem? xs j ≡ some u). old j u t)
      (λ (t : (j ≡ length xs) × (w ≡ u)). subst (λ (y : ℕ × A). F y.0 y.1) (λ i. (sym t.0 i, t.1 i)) new) (at_snoc xs w u j e)

  -- what stands at another place than the one that changed
  pub at_other : (xs : List A) (at j : ℕ) (w u : A) → j ≢ at → get_elem? (set xs at w) j ≡ some u → get_elem? xs j ≡ some u
  at_other xs at j w u apart e =
      ⊎_elim (λ (x : (j ≡ at) × (w ≡ u)). absurd (apart x.0)) (λ (x : (j ≢ at) × (get_elem? xs j ≡ some u)). x.1) (at_set xs at j w u e)

  -- of one pass alone
  pub only : (v : A) (at : ℕ) (x : A) → get_elem? (v ∷ []) at ≡ some x → (at ≡ 0) × (v ≡ x)
  only v zero x e = (refl, some-injective v x e)
  only v (suc at) x e = absurd (some-ne-none x (sym e))
