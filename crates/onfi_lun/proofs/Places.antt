-- What stands at a place of a list.
use Rattle.std.proofs.Common.{◌≡◌, ◌≢◌, ℕ, ◌<◌, inl, inr, List, length, Some, get_or, sym, ap, subst, ◌∙◌}
use Rattle.std.specs.Prelude.{slice_get, slice_set}
use Rattle.std.proofs.lemmas.Option.{slice_get-get_or}
use Rattle.onfi_problem.proofs.Places.{get_set_other, get_set_same, same_place}

pub get_of_or : {A : Type 0} (xs : List A) (i : ℕ) (v d : A) → i < length xs → v ≡ get_or xs i d → slice_get xs i ≡ Some v
get_of_or xs i v d lt e = slice_get-get_or xs i d lt ∙ ap Some (sym e)

-- where one element is another, what each has
pub each_set : {A : Type 0} (P : ℕ → A → Type 0) (xs : List A) (at : ℕ) (x y : A) → slice_get xs at ≡ Some x → P at y → ((i : ℕ) (z : A) → i ≢ at → slice_get xs i ≡ Some z → P i z)
    → (i : ℕ) (z : A) → slice_get (slice_set xs at y) i ≡ Some z → P i z
each_set P xs at x y there own others i z is = elim (same_place i at) [
  | inl e ↦ (
      let both : Some y ≡ Some z = sym (get_set_same xs at x y there) ∙ ap (slice_get (slice_set xs at y)) (sym e) ∙ is in
      let same : y ≡ z = cc in
      subst (P i) same (subst (λ j. P j y) (sym e) own))
  | inr d ↦ others i z d (sym (get_set_other xs at i y d) ∙ is)
]
