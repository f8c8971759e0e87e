-- The least start, seen where it is said.
use Rattle.std.proofs.Common.{◌≡◌, ℕ, ◌+◌, ◌<◌, ◌≤◌, List, [], ◌∷◌, length, map, get_or, Option, Some, None, refl, sym, ap, ◌∙◌, subst, arith}
use Rattle.std.specs.Prelude.{IfSome, slice_get}
use Rattle.std.proofs.lemmas.List.{length-map}
use Rattle.std.proofs.lemmas.Option.{slice_get-get_or}
use Rattle.onfi_request.specs.declared.want.Want.{Want}
use Rattle.onfi_problem.proofs.Lists.{map_get}
use Rattle.onfi_problem.proofs.Places.{within_get}
use Rattle.onfi_flight.specs.Turns.{IsTurn, LeastSoFar, SoonerOf, starts_in}
use Rattle.onfi_flight.specs.declared.turn.Turn.TheVariants as turn
use Rattle.onfi_flight.proofs.Turns.{so_far_one}
use Rattle.onfi_calls.specs.declared.least.Start.{Start}
use Rattle.onfi_calls.specs.declared.schedule.PlainGroup.{PlainGroup}
use Rattle.onfi_calls.specs.declared.schedule.PlainRest.{PlainRest}
use Rattle.onfi_calls.specs.InOrder.{some_start, start_of}
use Rattle.onfi_calls.specs.ReadSchedule.{group_of, rest_of, starts_of}

-- one list of starts more
pub least_more : {A : Type 0} (f : A → List ℕ) (xs : List A) (at : ℕ) (d : A) (least r : Option Start) → at < length xs → LeastSoFar (map f xs) at (some_start least)
    → SoonerOf (some_start least) at (f (get_or xs at d)) (some_start r) → LeastSoFar (map f xs) (at + 1) (some_start r)
least_more f xs at d least r low so_far sooner =
    so_far_one (map f xs) at (some_start least) (some_start r) (f (get_or xs at d)) so_far (map_get f xs at (get_or xs at d) (slice_get-get_or xs at d low)) sooner

same_starts : (wants : List Want) (groups : List PlainGroup) → starts_in (map (group_of wants) groups) ≡ map starts_of groups
same_starts wants [] = refl
same_starts wants (g ∷ groups) = ap (λ xs. starts_of g ∷ xs) (same_starts wants groups)

none_sooner : (lists : List (List ℕ)) (least : Option Start) (t : ℕ) → LeastSoFar lists (length lists) (some_start least) → IfSome least (λ s. t ≤ s.time)
    → (at time : ℕ) (starts : List ℕ) → slice_get lists at ≡ Some (time ∷ starts) → t ≤ time
none_sooner lists None t h low at time starts there = absurd (let e : time ∷ starts ≡ [] = h at (time ∷ starts) (within_get lists at (time ∷ starts) there) there in cc)
none_sooner lists (Some s) t h low at time starts there = let k = h.sooner at time starts (within_get lists at (time ∷ starts) there) there in omega (arith, low, k)

all_lists : {A : Type 0} (f : A → List ℕ) (xs : List A) (least : Option Start) → LeastSoFar (map f xs) (length xs) (some_start least) → LeastSoFar (map f xs) (length (map f xs)) (some_start least)
all_lists f xs least h = subst (λ n. LeastSoFar (map f xs) n (some_start least)) (sym (length-map xs f)) h

module _ (rests : List PlainRest) (groups : List PlainGroup) (a b : Option Start) (runs : LeastSoFar (map rest_of rests) (length rests) (some_start a))
    (begins : LeastSoFar (map starts_of groups) (length groups) (some_start b)) where
  pub turn_next : (next : Start) → a ≡ Some next → IfSome b (λ s. next.time ≤ s.time) → (wants : List Want) → IsTurn (map rest_of rests) (map (group_of wants) groups) (turn.Next (start_of next))
  turn_next next is low wants = (
    subst (λ (o : Option Start). LeastSoFar (map rest_of rests) (length (map rest_of rests)) (some_start o)) is (all_lists rest_of rests a runs),
    subst (λ lists. (at time : ℕ) (starts : List ℕ) → slice_get lists at ≡ Some (time ∷ starts) → next.time ≤ time) (sym (same_starts wants groups))
        (none_sooner (map starts_of groups) b next.time (all_lists starts_of groups b begins) low),
  )

  pub turn_first : (first : Start) → b ≡ Some first → IfSome a (λ s. first.time + 1 ≤ s.time) → (wants : List Want) → IsTurn (map rest_of rests) (map (group_of wants) groups) (turn.First (start_of first))
  turn_first first is low wants =
      let lists = same_starts wants groups in
      let count : length (map starts_of groups) ≡ length (map (group_of wants) groups) = length-map groups starts_of ∙ sym (length-map groups (group_of wants)) in (
        subst (λ xs. LeastSoFar xs (length (map (group_of wants) groups)) (Some (start_of first))) (sym lists)
            (subst (λ n. LeastSoFar (map starts_of groups) n (Some (start_of first))) count
            (subst (λ (o : Option Start). LeastSoFar (map starts_of groups) (length (map starts_of groups)) (some_start o)) is (all_lists starts_of groups b begins))),
        none_sooner (map rest_of rests) a (first.time + 1) (all_lists rest_of rests a runs) low,
      )
