-- At most as many replies are held as items are unanswered.
use Rattle.std.proofs.Common.{◌≡◌, ◌≢◌, ℕ, ◌+◌, ◌≤◌, inl, inr, true, List, [], ◌∷◌, ◌++◌, length, length-append, refl, ap, subst, arith}
use Rattle.std.specs.Prelude.{cond, map, ◌==◌}
use Rattle.std.specs.List.{AllByRecursion as All}
use Rattle.std.proofs.lemmas.Bool.{eq-eqb}
use Rattle.std.proofs.lemmas.List.{length-map}
use Rattle.onfi_group.specs.Words.{Has, Pairs, number}
use Rattle.onfi_request.specs.declared.reply.Reply.{Reply}
use Rattle.onfi_request.specs.declared.want.Want.{Want}
use Rattle.onfi_group.proofs.Counting.{distinct_within}
use Rattle.onfi_problem.proofs.Perm.{All-each, Has-map}
use Rattle.onfi_problem.proofs.Wants.{some_with_id}
use Rattle.onfi_core.specs.Kept.{IsSound, is_of_place}
use Rattle.onfi_core.specs.State.{HalfState, wants_from}
use Rattle.onfi_core.specs.declared.setup.Setup.{Setup}
use Rattle.onfi_core.proofs.Bus.{number-append}
use Rattle.onfi_core.proofs.Numbered.{length_wants}
use Rattle.onfi_core.proofs.Promise.{one_each}
use Rattle.onfi_problem.specs.Problem.{has_id}
use Rattle.onfi_request.specs.declared.request.Item.{Item}

-- how often a number stands among these
abbrev times_in : ℕ → List ℕ → ℕ
times_in i ns = number (λ n. n == i) ns

number_map : {A : Type 0} (f : A → ℕ) (i : ℕ) (xs : List A) → times_in i (map f xs) ≡ number (λ x. f x == i) xs
number_map f i [] = refl
number_map f i (x ∷ xs) = ap (λ n. cond (f x == i) 1 0 + n) (number_map f i xs)

counts_itself : (ns : List ℕ) (n : ℕ) → Has ns n → 1 ≤ times_in n ns
counts_itself [] n h = absurd h
counts_itself (m ∷ ns) n (inl e) = let k : (m == n) ≡ true = eq-eqb m n e in rw k (omega arith)
counts_itself (m ∷ ns) n (inr h) = let r = counts_itself ns n h in omega (arith, r)

-- where each stands once they are distinct
apart : (ns : List ℕ) → ((i : ℕ) → times_in i ns ≤ 1) → Pairs (λ (a b : ℕ). a ≢ b) ns
apart [] once = tt
apart (n ∷ ns) once = (
  All-each (λ m. n ≢ m) ns (λ m h e. (
      let k : (n == m) ≡ true = eq-eqb n m e in
      let one : 1 + times_in m ns ≤ 1 = rw k at (once m) in
      let some = counts_itself ns m h in
      absurd (omega (arith, one, some)))),
  apart ns (λ i. (let one = once i in omega (arith, one))),
)

-- that many distinct places of what was accepted
few_places : (s : Setup) (accepted : List Item) (ns : List ℕ) → ((i : ℕ) → times_in i ns ≤ number (has_id i) (wants_from s.geometry 0 accepted)) → length ns ≤ length accepted
few_places s accepted ns once =
    let ws = wants_from s.geometry 0 accepted in
    let ids = map (λ (w : Want). w.id) ws in
    let there : All (Has ids) ns = All-each (Has ids) ns (λ n has. (
    let some = counts_itself ns n has in
    let o = once n in
    let w = some_with_id ws n (omega (arith, some, o)) in
    subst (Has ids) w.2 (Has-map (λ (v : Want). v.id) ws w.0 w.1))) in
    let few = distinct_within ns ids (apart ns (λ i. (let o = once i in let one = one_each s.geometry 0 i accepted in omega (arith, o, one)))) there in
    omega (arith, few, length-map ws (λ (w : Want). w.id), length_wants s.geometry 0 accepted)

-- their places are distinct ones of what was accepted
pub replies_few : (s : Setup) (h : HalfState) → IsSound s h → length h.held + length h.posted ≤ length h.accepted
replies_few s h sound =
    let rs = h.held ++ h.posted in
    let few = few_places s h.accepted (map (λ (r : Reply). r.place) rs) (λ i. (
    let o = sound.once i in
    let m = number_map (λ (r : Reply). r.place) i rs in
    let n = number-append (is_of_place i) h.held h.posted in
    omega (arith, o, m, n))) in
    omega (arith, few, length-map rs (λ (r : Reply). r.place), length-append h.held h.posted)

-- .. and what isn't started has none
pub waiting_few : (s : Setup) (h : HalfState) → IsSound s h → length h.now.wants + length h.posted ≤ length h.accepted
waiting_few s h sound =
    let ns = map (λ (w : Want). w.id) h.now.wants in
    let ps = map (λ (r : Reply). r.place) h.posted in
    let few = few_places s h.accepted (ns ++ ps) (λ i. (
    let o = sound.once i in
    let a = number_map (λ (w : Want). w.id) i h.now.wants in
    let b = number_map (λ (r : Reply). r.place) i h.posted in
    let n = number-append (λ m. m == i) ns ps in
    omega (arith, o, a, b, n))) in
    omega (arith, few, length-map h.now.wants (λ (w : Want). w.id), length-map h.posted (λ (r : Reply). r.place), length-append ns ps)
