-- Wants whose numbers rise.
use Rattle.std.proofs.Common.{◌≡◌, ◌⊎◌, ◌↔◌, ℕ, ◌+◌, ◌<◌, ◌≤◌, List, [], ◌∷◌, length, drop, Some, inl, inr, sym, subst, arith}
use Rattle.std.specs.Prelude.{slice_get}
use Rattle.std.specs.List.{AllByRecursion as Each}
use Rattle.std.proofs.lemmas.List.{drop_all}
use Rattle.onfi_request.specs.declared.want.Want.{Want}
use Rattle.onfi_group.specs.Words.{Pairs}
use Rattle.onfi_problem.proofs.Places.{drop_next}
use Rattle.onfi_calls.specs.declared.channel.PlainWant.{PlainWant}
use Rattle.onfi_calls.specs.InOrder.{RiseFrom}
use Rattle.onfi_calls.specs.Problem.{wants_of}

-- Numbers that rise

pub rising_ends : (below floor at : ℕ) (wants : List PlainWant) (B : Type 0) → length wants ≤ at → B ↔ RiseFrom floor below (drop at wants) → B
rising_ends below floor at wants B over so_far = so_far.1 (subst (RiseFrom floor below) (sym (drop_all at wants over)) tt)

pub rising_stops : (below floor at : ℕ) (wants : List PlainWant) (w : PlainWant) (B : Type 0) → slice_get wants at ≡ Some w → (w.id < floor) ⊎ (below ≤ w.id)
    → B ↔ RiseFrom floor below (drop at wants) → B → ⊥
rising_stops below floor at wants w B there (inl low) so_far b = let r = subst (RiseFrom floor below) (drop_next wants at w there) (so_far.0 b) in let k = r.0 in omega (arith, low, k)
rising_stops below floor at wants w B there (inr high) so_far b = let r = subst (RiseFrom floor below) (drop_next wants at w there) (so_far.0 b) in let k = r.1 in omega (arith, high, k)

pub rising_goes : (below floor at : ℕ) (wants : List PlainWant) (w : PlainWant) (B : Type 0) → slice_get wants at ≡ Some w → floor ≤ w.id → w.id < below
    → B ↔ RiseFrom floor below (drop at wants) → B ↔ RiseFrom (w.id + 1) below (drop (at + 1) wants)
rising_goes below floor at wants w B there low high so_far = (
  λ b. (subst (RiseFrom floor below) (drop_next wants at w there) (so_far.0 b)).2,
  λ rest. so_far.1 (subst (RiseFrom floor below) (sym (drop_next wants at w there)) (low, high, rest)),
)

each_above : (below bits floor lower : ℕ) (wants : List PlainWant) → lower ≤ floor → RiseFrom floor below wants → Each (λ x. lower ≤ x.id) (wants_of bits wants)
each_above below bits floor lower [] low rise = tt
each_above below bits floor lower (w ∷ wants) low rise = let k = rise.0 in (omega (arith, low, k), each_above below bits (w.id + 1) lower wants (omega (arith, low, k)) rise.2)

each_over : (id : ℕ) (wants : List Want) → Each (λ x. id + 1 ≤ x.id) wants → Each (λ x. id < x.id) wants
each_over id [] each = tt
each_over id (w ∷ wants) each = let k = each.0 in (omega (arith, k), each_over id wants each.1)

pub rise_of : (below bits floor : ℕ) (wants : List PlainWant) → RiseFrom floor below wants → Pairs (λ a b. a.id < b.id) (wants_of bits wants)
rise_of below bits floor [] rise = tt
rise_of below bits floor (w ∷ wants) rise =
    (each_over w.id (wants_of bits wants) (each_above below bits (w.id + 1) (w.id + 1) wants (omega arith) rise.2), rise_of below bits (w.id + 1) wants rise.2)
