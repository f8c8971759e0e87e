-- Which list of starts has the least first start.
use Rattle.std.proofs.Common.{◌≡◌, ℕ, ◌+◌, ◌<◌, ◌⊎◌, inl, inr, List, [], ◌∷◌, length, Option, Some, None, refl, sym, ap, ◌∙◌, subst, arith}
use Rattle.std.specs.Prelude.{slice_get}
use Rattle.onfi_problem.proofs.Places.{within_get}
use Rattle.onfi_schedule.specs.Schedule.{Placed}
use Rattle.onfi_flight.specs.Turns.{SoonerIs, SoonerOf, LeastSoFar, starts_in}
use Rattle.onfi_flight.specs.declared.turn.Start.{Start}
use Rattle.onfi_flight.proofs.Lists.{get_map}

next_cases : (at n : ℕ) → at < n + 1 → (at < n) ⊎ (at ≡ n)
next_cases at n h = grind arith

no_more : (t : ℕ) (ts xs : List ℕ) → Some xs ≡ Some (t ∷ ts) → xs ≡ [] → ⊥
no_more t ts xs e z = cc

same_first : (t u : ℕ) (ts us : List ℕ) → Some (t ∷ ts) ≡ Some (u ∷ us) → t ≡ u
same_first t u ts us e = cc

-- a list with no start changes nothing
so_far_none : (lists : List (List ℕ)) (n : ℕ) (least : Option Start) → LeastSoFar lists n least → slice_get lists n ≡ Some [] → LeastSoFar lists (n + 1) least
so_far_none lists n None h e = λ at starts low there. elim (next_cases at n low) [
  | inl l ↦ h at starts l there
  | inr q ↦ (let z : Some [] ≡ Some starts = sym e ∙ ap (slice_get lists) (sym q) ∙ there in cc)
]
so_far_none lists n (Some s) h e = record {
  there = h.there;
  within = let w = h.within in omega (arith, w);
  sooner = λ at time starts low there. elim (next_cases at n low) [
    | inl l ↦ h.sooner at time starts l there
    | inr q ↦ absurd (no_more time starts [] (sym e ∙ ap (slice_get lists) (sym q) ∙ there) refl)
  ];
  first = λ at starts low there. elim (next_cases at n low) [
    | inl l ↦ h.first at starts l there
    | inr q ↦ absurd (no_more s.time starts [] (sym e ∙ ap (slice_get lists) (sym q) ∙ there) refl)
  ];
}

-- a list with a start is the least, or the least stays
so_far_some : (lists : List (List ℕ)) (n : ℕ) (least r : Option Start) (t : ℕ) (ts : List ℕ) → LeastSoFar lists n least → slice_get lists n ≡ Some (t ∷ ts) → SoonerIs least (record { at = n; time = t }) r → LeastSoFar lists (n + 1) r
so_far_some lists n None r t ts h e k =
    let P : Option Start → Type 0 = λ o. LeastSoFar lists (n + 1) o in
    subst P (sym k) (record {
      there = (ts, e);
      within = omega arith;
      sooner = λ at time starts low there. elim (next_cases at n low) [
        | inl l ↦ (let z = h at (time ∷ starts) l there in cc)
        | inr q ↦ (let z = same_first t time ts starts (sym e ∙ ap (slice_get lists) (sym q) ∙ there) in omega arith)
      ];
      first = λ at starts low there. elim (next_cases at n low) [
        | inl l ↦ (let z = h at (t ∷ starts) l there in cc)
        | inr q ↦ omega arith
      ];
    })
so_far_some lists n (Some s) r t ts h e (inl k) =
    let P : Option Start → Type 0 = λ o. LeastSoFar lists (n + 1) o in
    let low' = k.0 in
    let w = h.within in
    subst P (sym k.1) (record {
      there = h.there;
      within = omega (arith, w);
      sooner = λ at time starts low there. elim (next_cases at n low) [
        | inl l ↦ h.sooner at time starts l there
        | inr q ↦ (let z = same_first t time ts starts (sym e ∙ ap (slice_get lists) (sym q) ∙ there) in omega arith)
      ];
      first = λ at starts low there. elim (next_cases at n low) [
        | inl l ↦ h.first at starts l there
        | inr q ↦ omega (arith, w)
      ];
    })
so_far_some lists n (Some s) r t ts h e (inr k) =
    let P : Option Start → Type 0 = λ o. LeastSoFar lists (n + 1) o in
    let low' = k.0 in
    subst P (sym k.1) (record {
      there = (ts, e);
      within = omega arith;
      sooner = λ at time starts low there. elim (next_cases at n low) [
        | inl l ↦ (let z = h.sooner at time starts l there in omega arith)
        | inr q ↦ (let z = same_first t time ts starts (sym e ∙ ap (slice_get lists) (sym q) ∙ there) in omega arith)
      ];
      first = λ at starts low there. elim (next_cases at n low) [
        | inl l ↦ (let z = h.sooner at t starts l there in absurd (omega arith))
        | inr q ↦ omega arith
      ];
    })

-- one list more
pub so_far_one : (lists : List (List ℕ)) (n : ℕ) (least r : Option Start) (starts : List ℕ) → LeastSoFar lists n least → slice_get lists n ≡ Some starts → SoonerOf least n starts r → LeastSoFar lists (n + 1) r
so_far_one lists n least r [] h e k = subst (λ (o : Option Start). LeastSoFar lists (n + 1) o) (sym k) (so_far_none lists n least h e)
so_far_one lists n least r (t ∷ ts) h e k = so_far_some lists n least r t ts h e k

-- a list of a group is one of those
pub within_groups : (groups : List Placed) (i : ℕ) (starts : List ℕ) → slice_get (starts_in groups) i ≡ Some starts → i < length groups
within_groups groups i starts h = let (g, there, _) = get_map (λ (g : Placed). g.starts) groups i starts h in within_get groups i g there
