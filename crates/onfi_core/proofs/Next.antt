-- What the next planning takes, item by item.
use Rattle.std.proofs.Common.{◌≡◌, ℕ, zero, suc, ◌+◌, ◌-◌, ◌<◌, ◌≤◌, ◌⊎◌, inl, inr, true, false, List, [], ◌∷◌, ◌++◌, length, Some, None, ◌^◌, take, drop, refl, sym, ap, ◌∙◌, append_assoc, length-drop, arith}
use Rattle.std.specs.Prelude.{slice_get, ◌==◌, nat_lt, not, if◌then◌else◌, Bool, Option}
use Rattle.std.specs.List.{flat_map}
use Rattle.std.proofs.lemmas.Bool.{cases_Bool, le-ltb, lt-ltb}
use Rattle.std.proofs.lemmas.List.{length-take, take_all}
use Rattle.std.proofs.lemmas.Bool.Decides.{nat_tests}
use Rattle.onfi_addr.specs.declared.geometry.Geometry.{Geometry}
use Rattle.onfi_request.specs.declared.request.Item.{Item}
use Rattle.onfi_request.specs.declared.want.Want.{Want}
use Rattle.onfi_group.specs.Words.{number}
use Rattle.onfi_problem.specs.Problem.{has_id}
use Rattle.slab.specs.Slab.{Slab}
use Rattle.onfi_core.specs.declared.setup.Setup.{Setup}
use Rattle.onfi_core.specs.declared.slot.Slot.{Slot}
use Rattle.onfi_core.specs.State.{HalfState, want_of, wants_from}
use Rattle.onfi_core.specs.declared.outcome.Cause.TheVariants.{Clock}
use Rattle.onfi_core.specs.declared.outcome.Outcome.{Outcome}
use Rattle.onfi_core.specs.declared.outcome.Outcome.TheVariants as outcome
use Rattle.onfi_core.specs.Steps.{unplanned, if_stopped, is_current, is_empty, is_late, next_problem, or_else, refused_where, taken_next, nothing_to_plan, plan_refusal}
use Rattle.onfi_problem.specs.Left.{horizon}
use Rattle.onfi_core.specs.Kept.{IsSound, is_of_place, unposted}
use Rattle.onfi_core.specs.View.{HasSlot, AreSlots}
use Rattle.onfi_core.proofs.Lists.{take_next}
use Rattle.onfi_core.proofs.Promise.{one_each}
use Rattle.onfi_core.proofs.Numbered.{length_wants}

-- a place that is unplanned, not started, running or held is not posted
pub not_posted : (s : Setup) (h : HalfState) (i : ℕ) → IsSound s h → 1 ≤ number (has_id i) (unplanned s h) + (number (has_id i) h.now.wants + (number (has_id i) (flat_map unposted h.now.luns) + number (is_of_place i) h.held)) → number (is_of_place i) h.posted ≡ 0
not_posted s h i sound some = let a = sound.once i in let b = one_each s.geometry 0 i h.accepted in omega arith

-- .. and was accepted
pub was_accepted : (geometry : Geometry) (n i : ℕ) (xs : List Item) → 1 ≤ number (has_id i) (wants_from geometry n xs) → i < n + length xs
was_accepted geometry n i [] h = absurd (omega arith)
was_accepted geometry n i (x ∷ xs) h =
    elim (cases_Bool (n == i)) [
      | inl k ↦ (let e : n ≡ i = grind (arith, nat_tests) in omega arith)
      | inr k ↦ (let h' : 1 ≤ 0 + number (has_id i) (wants_from geometry (n + 1) xs) = rw k at h in let r = was_accepted geometry (n + 1) i xs (omega arith) in omega arith)
    ]

pub is_wanted : (geometry : Geometry) (n i : ℕ) (xs : List Item) → n ≤ i → i < n + length xs → 1 ≤ number (has_id i) (wants_from geometry n xs)
is_wanted geometry n i [] a b = absurd (omega arith)
is_wanted geometry n i (x ∷ xs) a b =
    elim (cases_Bool (n == i)) [
      | inl k ↦ rw k (omega arith)
      | inr k ↦ (let d : n ≡ i → ⊥ = (λ e. let t : (n == i) ≡ true = grind (arith, nat_tests) in cc) in let r = is_wanted geometry (n + 1) i xs (omega arith) (omega arith) in rw k (omega (arith, r)))
    ]

-- an unplanned item stands in a slot
pub unplanned_slot : (s : Setup) (slots : Slab Slot) (h : HalfState) (i : ℕ) → AreSlots slots h.accepted h.posted → IsSound s h → h.planned ≤ i → i < length h.accepted → HasSlot slots i
unplanned_slot s slots h i a sound low high =
    let l = length-drop h.planned h.accepted in
    let p = sound.planned in
    let w = is_wanted s.geometry h.planned i (drop h.planned h.accepted) low (omega arith) in
    a.kept i high (not_posted s h i sound (omega arith))

pub get_wants : (geometry : Geometry) (n : ℕ) (xs : List Item) (i : ℕ) (x : Item) → slice_get xs i ≡ Some x → slice_get (wants_from geometry n xs) i ≡ Some (want_of geometry (n + i) x)
get_wants geometry n [] i x h = cc
get_wants geometry n (y ∷ xs) zero x h = let e : y ≡ x = cc in let z : n + 0 ≡ n = omega arith in rw z (ap (λ v. Some (want_of geometry n v)) e)
get_wants geometry n (y ∷ xs) (suc i) x h = let z : n + suc i ≡ n + 1 + i = omega arith in rw z (get_wants geometry (n + 1) xs i x h)

pub get_drop : {A : Type 0} (n : ℕ) (xs : List A) (i : ℕ) → slice_get (drop n xs) i ≡ slice_get xs (n + i)
get_drop zero xs i = let z : 0 + i ≡ i = omega arith in rw z refl
get_drop (suc n) [] i = refl
get_drop (suc n) (x ∷ xs) i = let z : suc n + i ≡ suc (n + i) = omega arith in rw z (get_drop n xs i)

-- one more is taken
pub takes_one : (geometry : Geometry) (accepted : List Item) (planned at : ℕ) (x : Item) (done : List Want) (before : List Want) → slice_get accepted (planned + at) ≡ Some x → done ≡ before ++ take at (wants_from geometry planned (drop planned accepted)) → done ++ want_of geometry (planned + at) x ∷ [] ≡ before ++ take (at + 1) (wants_from geometry planned (drop planned accepted))
takes_one geometry accepted planned at x done before there so =
    let g = get_wants geometry planned (drop planned accepted) at x (get_drop planned accepted at ∙ there) in
    let t = take_next (wants_from geometry planned (drop planned accepted)) at (want_of geometry (planned + at) x) g in
    ap (λ zs. zs ++ want_of geometry (planned + at) x ∷ []) so
    ∙ append_assoc before (take at (wants_from geometry planned (drop planned accepted))) (want_of geometry (planned + at) x ∷ [])
    ∙ ap (λ zs. before ++ zs) (sym t)

-- as many as there are, or as many as find a place
pub takes_all : {A : Type 0} (n m : ℕ) (xs : List A) → n ≤ m → (n ≡ m) ⊎ (length xs ≤ n) → take n xs ≡ take m xs
takes_all n m xs low (inl e) = ap (λ k. take k xs) e
takes_all n m xs low (inr h) = take_all n xs h ∙ sym (take_all m xs (omega arith))

-- where nothing else stands against it a planning is refused just where it might end late
late_alone : (stopped : Option Outcome) (none late : Bool) → stopped ≡ None → none ≡ false → or_else stopped (or_else (refused_where none outcome.NothingToPlan) (refused_where late (outcome.Stopped Clock))) ≡ refused_where late (outcome.Stopped Clock)
late_alone stopped none late a b = rw (a, b) refl

plan_by_time : (s : Setup) (h : HalfState) (late : Bool) → h.stopped ≡ None → nothing_to_plan s h ≡ false → is_late s h ≡ late → plan_refusal s h ≡ refused_where late (outcome.Stopped Clock)
plan_by_time s h late going some is = late_alone (if_stopped h.stopped) (nothing_to_plan s h) (is_late s h) (ap if_stopped going) some ∙ ap (λ b. refused_where b (outcome.Stopped Clock)) is

-- nothing stands against a planning that ends in time
pub plan_goes_on : (s : Setup) (h : HalfState) → h.stopped ≡ None → nothing_to_plan s h ≡ false → horizon (next_problem s h) < 2 ^ 62 → plan_refusal s h ≡ None
plan_goes_on s h going some low = plan_by_time s h false going some (grind (arith, nat_tests))

-- one that might end late stops the channel
pub plan_stops : (s : Setup) (h : HalfState) → h.stopped ≡ None → nothing_to_plan s h ≡ false → 2 ^ 62 ≤ horizon (next_problem s h) → plan_refusal s h ≡ Some (outcome.Stopped Clock)
plan_stops s h going some high = plan_by_time s h true going some (grind (arith, nat_tests))

-- then no item is taken
pub none_taken : (s : Setup) (h : HalfState) → nothing_to_plan s h ≡ true → is_empty (taken_next s h) ≡ true
none_taken s h none = both (is_empty (taken_next s h)) (is_current h) none
  where
    both : (b e : Bool) → (if b then e else false) ≡ true → b ≡ true
    both true e h = refl
    both false e h = cc

-- Whether a planning takes more

empty_or : {A : Type 0} (xs : List A) → ((is_empty xs ≡ true) × (length xs ≡ 0)) ⊎ ((is_empty xs ≡ false) × (1 ≤ length xs))
empty_or [] = inl (refl, refl)
empty_or (x ∷ xs) = inr (refl, omega arith)

-- where the wants not started fill the batch it takes none
pub none_fit : (s : Setup) (h : HalfState) → h.batch ≤ length h.now.wants → not (is_empty (taken_next s h)) ≡ false
none_fit s h full = let none : h.batch - length h.now.wants ≡ 0 = omega arith in ap (λ n. not (is_empty (take n (unplanned s h)))) none

-- else it takes what no plan has taken
pub new_takes : (s : Setup) (h : HalfState) → length h.now.wants < h.batch → nat_lt h.planned (length h.accepted) ≡ not (is_empty (taken_next s h))
new_takes s h room =
    let b = length_wants s.geometry h.planned (drop h.planned h.accepted) in
    let c = length-drop h.planned h.accepted in
    let l = length-take (h.batch - length h.now.wants) (unplanned s h) in
    elim (empty_or (taken_next s h)) [
      | inl e ↦ le-ltb h.planned (length h.accepted) (let z = e.1 in omega (arith, b, c, l, z)) ∙ ap not (sym e.0)
      | inr e ↦ lt-ltb h.planned (length h.accepted) (let z = e.1 in omega (arith, b, c, l, z)) ∙ ap not (sym e.0)
    ]
