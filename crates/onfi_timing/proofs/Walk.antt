-- A walk over rows of text.
use Rattle.std.proofs.Common.{◌≡◌, ◌<◌, ◌≤◌, ℕ, ◌+◌, List, map, length, drop, get_or, Result, Ok, Err, sym, ap, ◌∙◌, add-one, drop-cons}
use Rattle.std.proofs.Math.ListN.{drop_of_length-le}
use Rattle.onfi_timing.specs.Record.{goes_on, with_each}

one_step : {X S F : Type 0} (f : X → List (List ℕ)) (with_row : S → ℕ → List (List ℕ) → Result S F) (rows : List X) (at : ℕ) (x : X) (so_far : S) → at < length rows → with_each with_row so_far (at + 1) (map f (drop at rows)) ≡ goes_on (with_row so_far (at + 1) (f (get_or rows at x))) (λ more. with_each with_row more (at + 1 + 1) (map f (drop (at + 1) rows)))
unfolding with_each
one_step f with_row rows at x so_far h =
    ap (λ l. with_each with_row so_far (at + 1) (map f l)) (drop-cons rows at x h)
    ∙ ap (λ n. goes_on (with_row so_far (at + 1) (f (get_or rows at x))) (λ more. with_each with_row more (at + 1 + 1) (map f (drop n rows)))) (sym (add-one at))

pub walk_on : {X S F : Type 0} (f : X → List (List ℕ)) (with_row : S → ℕ → List (List ℕ) → Result S F) (rows : List X) (at : ℕ) (x : X) (so_far more : S) → at < length rows → with_row so_far (at + 1) (f (get_or rows at x)) ≡ Ok more → with_each with_row so_far (at + 1) (map f (drop at rows)) ≡ with_each with_row more (at + 1 + 1) (map f (drop (at + 1) rows))
walk_on f with_row rows at x so_far more h e = one_step f with_row rows at x so_far h ∙ ap (λ r. goes_on r (λ m. with_each with_row m (at + 1 + 1) (map f (drop (at + 1) rows)))) e

pub walk_stopped : {X S F : Type 0} (f : X → List (List ℕ)) (with_row : S → ℕ → List (List ℕ) → Result S F) (rows : List X) (at : ℕ) (x : X) (so_far : S) (fault : F) → at < length rows → with_row so_far (at + 1) (f (get_or rows at x)) ≡ Err fault → with_each with_row so_far (at + 1) (map f (drop at rows)) ≡ Err fault
walk_stopped f with_row rows at x so_far fault h e = one_step f with_row rows at x so_far h ∙ ap (λ r. goes_on r (λ m. with_each with_row m (at + 1 + 1) (map f (drop (at + 1) rows)))) e

pub walk_ended : {X S F : Type 0} (f : X → List (List ℕ)) (with_row : S → ℕ → List (List ℕ) → Result S F) (rows : List X) (at : ℕ) (so_far : S) → length rows ≤ at → with_each with_row so_far (at + 1) (map f (drop at rows)) ≡ Ok so_far
unfolding with_each
walk_ended f with_row rows at so_far h = ap (λ l. with_each with_row so_far (at + 1) (map f l)) (drop_of_length-le rows h)
