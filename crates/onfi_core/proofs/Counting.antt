-- How far a half is.
use Rattle.std.proofs.Common.{◌≡◌, ℕ, zero, suc, ◌+◌, ◌-◌, ◌<◌, inl, inr, Bool, true, List, [], ◌∷◌, length, Option, Some, None, drop, sym, ◌∙◌, length-drop, arith}
use Rattle.std.specs.Prelude.{cond, count_by, is_some, nat_lt, slice_index_or, ◌==◌, IsTrue}
use Rattle.std.proofs.lemmas.Bool.{cases_lt, eqb-true, lt-ltb, ltb-true}
use Rattle.std.proofs.lemmas.List.Sums.{sum_by-cons}
use Rattle.onfi_group.specs.Words.{number}
use Rattle.slab.specs.Slab.{Slab, slab_len}
use Rattle.onfi_core.specs.declared.setup.Setup.{Setup}
use Rattle.onfi_core.specs.declared.slot.Slot.{Slot}
use Rattle.onfi_core.specs.Kept.{IsSound, is_of_place}
use Rattle.onfi_core.specs.State.{HalfState}
use Rattle.onfi_core.specs.Steps.{unplanned}
use Rattle.onfi_core.specs.View.{AreSlots, WantsItem}
use Rattle.onfi_core.proofs.Numbered.{length_wants}
use Rattle.onfi_core.proofs.Promise.{one_each}

pub unplanned_count : (s : Setup) (h : HalfState) → length (unplanned s h) ≡ length h.accepted - h.planned
unplanned_count s h =
    let b = length_wants s.geometry h.planned (drop h.planned h.accepted) in
    let c = length-drop h.planned h.accepted in
    omega (arith, b, c)

none_there : {A : Type 0} (xs : List (Option A)) (i : ℕ) (x : A) → count_by is_some xs ≡ 0 → slice_index_or xs i None ≡ Some x → ⊥
none_there [] i x none at = cc
none_there (None ∷ xs) zero x none at = cc
none_there (None ∷ xs) (suc i) x none at = none_there xs i x none at
none_there (Some y ∷ xs) i x none at = absurd (let some : 1 + count_by is_some xs ≡ 0 = sym (sum_by-cons (λ z. cond (is_some z) 1 0) (Some y) xs) ∙ none in omega arith)

-- where no slot is left each accepted place has exactly one posted reply
pub each_answered : (s : Setup) (slots : Slab Slot) (h : HalfState) → IsSound s h → AreSlots slots h.accepted h.posted → slab_len slots ≡ 0 → (place : ℕ) → place < length h.accepted → number (is_of_place place) h.posted ≡ 1
each_answered s slots h sound are none place low =
    let once = sound.once place in
    let one = one_each s.geometry 0 place h.accepted in
    elim (cases_lt (number (is_of_place place) h.posted) 1) [
      | inl lt ↦ absurd (let has = are.kept place low (omega arith) in none_there slots.slots has.0 has.1 none has.3)
      | inr ge ↦ omega arith
    ]

pub each_when : (s : Setup) (slots : Slab Slot) (h : HalfState) → IsSound s h → AreSlots slots h.accepted h.posted → (empty : Bool) → empty ≡ (slab_len slots == 0) → IsTrue empty → (place : ℕ) → place < length h.accepted → number (is_of_place place) h.posted ≡ 1
each_when s slots h sound are empty is so = let all : (slab_len slots == 0) ≡ true = sym is ∙ so in each_answered s slots h sound are (eqb-true (slab_len slots) 0 all)

-- an item is wanted while fewer than the batch are unplanned
pub wants_more : (s : Setup) (h : HalfState) → (accepted planned batch : ℕ) → accepted ≡ length h.accepted → planned ≡ h.planned → batch ≡ h.batch
    → (IsTrue (nat_lt (accepted - planned) batch) → WantsItem s h) × (WantsItem s h → IsTrue (nat_lt (accepted - planned) batch))
wants_more s h accepted planned batch a p b =
    let e = unplanned_count s h in
    (λ t. (let l = ltb-true (accepted - planned) batch t in omega arith), λ w. lt-ltb (accepted - planned) batch (omega arith))
