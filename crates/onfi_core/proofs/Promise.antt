-- What is reached keeps the promise.
use Rattle.std.proofs.Common.{◌≡◌, ◌≢◌, ℕ, ◌+◌, ◌<◌, ◌≤◌, inl, inr, true, List, [], ◌∷◌, refl, arith}
use Rattle.std.specs.Prelude.{◌==◌, Bool, IfSome}
use Rattle.std.specs.List.{AllByRecursion as All}
use Rattle.std.proofs.lemmas.Bool.{cases_Bool}
use Rattle.std.proofs.lemmas.Bool.Decides.{nat_tests}
use Rattle.onfi_addr.specs.declared.geometry.Geometry.{Geometry}
use Rattle.onfi_request.specs.Words.{Pairs}
use Rattle.onfi_request.specs.declared.reply.Reply.{Reply}
use Rattle.onfi_request.specs.declared.request.Item.{Item}
use Rattle.onfi_group.specs.Words.{number}
use Rattle.onfi_problem.specs.Problem.{has_id}
use Rattle.onfi_core.specs.Kept.{IsReached, KeepsPromise, is_of_place}
use Rattle.onfi_plan.specs.declared.plan.Certificate.{Certificate}
use Rattle.onfi_die.specs.Rightful.{AreRightful}
use Rattle.onfi_core.specs.State.{ChannelState, device_for, wants_from}
use Rattle.onfi_core.specs.Steps.{IsPromised}
use Rattle.onfi_core.specs.declared.setup.Setup.{Setup}

pub none_before : (geometry : Geometry) (n i : ℕ) (xs : List Item) → i < n → number (has_id i) (wants_from geometry n xs) ≡ 0
none_before geometry n i [] h = refl
none_before geometry n i (x ∷ xs) h = let e = none_before geometry (n + 1) i xs (omega arith) in grind (arith, nat_tests)

pub one_each : (geometry : Geometry) (n i : ℕ) (xs : List Item) → number (has_id i) (wants_from geometry n xs) ≤ 1
one_each geometry n i [] = omega arith
one_each geometry n i (x ∷ xs) =
    elim (cases_Bool (n == i)) [
      | inl k ↦ (let e : n ≡ i = grind (arith, nat_tests) in let z = none_before geometry (n + 1) i xs (omega arith) in rw (k, z) (omega arith))
      | inr k ↦ (let z = one_each geometry (n + 1) i xs in rw k (omega (arith, z)))
    ]

not_there : (r : Reply) (rs : List Reply) → number (is_of_place r.place) rs ≡ 0 → All (λ (b : Reply). r.place ≢ b.place) rs
not_there r [] h = tt
not_there r (q ∷ rs) h =
    elim (cases_Bool (q.place == r.place)) [
      | inl k ↦ absurd (let h' = rw k at h in omega arith)
      | inr k ↦ (let h' : 0 + number (is_of_place r.place) rs ≡ 0 = rw k at h in ((λ e. let t : (q.place == r.place) ≡ true = grind (arith, nat_tests) in cc), not_there r rs (omega arith)))
    ]

pub places_apart : (rs : List Reply) → ((i : ℕ) → number (is_of_place i) rs ≤ 1) → Pairs (λ (a b : Reply). a.place ≢ b.place) rs
places_apart [] h = tt
places_apart (r ∷ rs) h =
    let t : (r.place == r.place) ≡ true = grind (arith, nat_tests) in
    let one : 1 + number (is_of_place r.place) rs ≤ 1 = rw t at (h r.place) in
    (not_there r rs (omega arith), places_apart rs (λ i. let k = h i in omega arith))

-- what is posted is rightful
pub rightful_reached : (s : Setup) (c : ChannelState) → IsReached s c → AreRightful (device_for s c.chip) c.half.accepted c.half.posted
rightful_reached s c r = record {
  once = places_apart c.half.posted (λ i. let a = r.half.sound.once i in let b = one_each s.geometry 0 i c.half.accepted in omega arith);
  each = r.half.posted;
}

pub promise : (exact : Bool) (certifies : Certificate → Type 0) (s : Setup) (c : ChannelState) → IsReached s c → IfSome c.half.last (IsPromised exact certifies) → KeepsPromise exact certifies s c
promise exact certifies s c r promised = record {
  rightful = rightful_reached s c r;
  sent = r.sent;
  serials = r.serials;
  collected = r.collected;
  once = r.half.sound.once;
  made = r.half.made;
  last = r.half.sound.last;
  promised = promised;
}
