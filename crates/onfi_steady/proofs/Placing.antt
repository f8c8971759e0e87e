-- A group that may start is found by the numbers of its members.
use Rattle.std.proofs.Common.{◌≡◌, ◌≢◌, ℕ, zero, suc, ◌+◌, ◌<◌, ◌≤◌, ◌∙◌, inl, inr, Bool, true, false, List, [], ◌∷◌, length, take, Option, Some, None, ap, arith, refl, subst, sym}
use Rattle.std.specs.Prelude.{◌==◌, if◌then◌else◌, slice_get, slice_index_or}
use Rattle.std.specs.List.{AllByRecursion as All}
use Rattle.std.proofs.lemmas.Bool.{eq-eqb, false≢true}
use Rattle.std.proofs.lemmas.List.{take_all}
use Rattle.onfi_request.specs.declared.want.Want.{Want}
use Rattle.onfi_group.specs.Words.{Has, Pairs}
use Rattle.onfi_group.specs.Group.{IsStartable, on_block}
use Rattle.onfi_group.proofs.Lists.{All-weaker, first_has}
use Rattle.onfi_problem.specs.declared.moves.Move.{Move as KeptMove}
use Rattle.onfi_problem.specs.declared.moves.Move.TheVariants.{Next as KeptNext}
use Rattle.onfi_problem.specs.Moves.{AreMoves, IsMove, Move, Next, Start}
use Rattle.onfi_problem.specs.Position.{Position, move_of, moves_of}
use Rattle.onfi_problem.specs.Problem.{IsProblem, Problem}
use Rattle.onfi_problem.proofs.Firsts.{member_in}
use Rattle.onfi_steady.specs.Next.{move_by}
use Rattle.onfi_steady.specs.Placing.{are_same, is_same}

both : (a b : Bool) → (if a then b else false) ≡ true → (a ≡ true) × (b ≡ true)
both true b h = (refl, h)
both false b h = absurd (false≢true h)

-- what is the same at each of four places
each_same : (xs ys : List Want) → are_same xs ys ≡ true → (at : ℕ) → at < 4 → is_same (slice_get xs at) (slice_get ys at) ≡ true
each_same xs ys h at k = by_place at k
  where
    first : (is_same (slice_get xs 0) (slice_get ys 0) ≡ true) × ((if is_same (slice_get xs 1) (slice_get ys 1) then (if is_same (slice_get xs 2) (slice_get ys 2) then is_same (slice_get xs 3) (slice_get ys 3) else false) else false) ≡ true)
    first = both (is_same (slice_get xs 0) (slice_get ys 0)) _ h

    second : (is_same (slice_get xs 1) (slice_get ys 1) ≡ true) × ((if is_same (slice_get xs 2) (slice_get ys 2) then is_same (slice_get xs 3) (slice_get ys 3) else false) ≡ true)
    second = both (is_same (slice_get xs 1) (slice_get ys 1)) _ first.1

    third : (is_same (slice_get xs 2) (slice_get ys 2) ≡ true) × (is_same (slice_get xs 3) (slice_get ys 3) ≡ true)
    third = both (is_same (slice_get xs 2) (slice_get ys 2)) _ second.1

    by_place : (at : ℕ) → at < 4 → is_same (slice_get xs at) (slice_get ys at) ≡ true
    by_place zero k = first.0
    by_place (suc zero) k = second.0
    by_place (suc (suc zero)) k = third.0
    by_place (suc (suc (suc zero))) k = third.1
    by_place (suc (suc (suc (suc at)))) k = absurd (omega arith)

-- wants of one list whose numbers rise are the same where their numbers are
module _ (ws : List Want) (rises : Pairs (λ a b. a.id < b.id) ws) where
  one_want : (x y : Want) → Has ws x → Has ws y → (x.id == y.id) ≡ true → x ≡ y
  one_want x y i j e = by_case (member_in ws (x ∷ []) y rises (i, tt) j (rw e refl))
    where
      by_case : Has (x ∷ []) y → x ≡ y
      by_case (inl q) = q
      by_case (inr q) = absurd q

  same_lists : (n : ℕ) (xs ys : List Want) → length xs ≤ n → length ys ≤ n → All (Has ws) xs → All (Has ws) ys → ((at : ℕ) → at < n → is_same (slice_get xs at) (slice_get ys at) ≡ true) → xs ≡ ys
  same_lists n [] [] a b i j h = refl
  same_lists zero (x ∷ xs) ys a b i j h = absurd (omega arith)
  same_lists zero [] (y ∷ ys) a b i j h = absurd (omega arith)
  same_lists (suc n) [] (y ∷ ys) a b i j h = absurd (false≢true (h 0 (omega arith)))
  same_lists (suc n) (x ∷ xs) [] a b i j h = absurd (false≢true (h 0 (omega arith)))
  same_lists (suc n) (x ∷ xs) (y ∷ ys) a b i j h =
      ap (λ z. z ∷ xs) (one_want x y i.0 j.0 (h 0 (omega arith))) ∙ ap (λ z. y ∷ z) (same_lists n xs ys (omega arith) (omega arith) i.1 j.1 (λ at k. h (suc at) (omega arith)))

-- members of a group that may start wait
there : (p : Problem) (g : List Want) → IsStartable p.rules p.wants g → All (Has p.wants) g
there p g s = All-weaker _ _ (λ m f. first_has (on_block m) p.wants m f) g s.first

-- one group that may start has these numbers
pub one_group : (p : Problem) (g h : List Want) → IsProblem p → IsMove p (Start g) → IsMove p (Start h) → are_same g h ≡ true → g ≡ h
one_group p g h is a b same =
    same_lists p.wants is.ids 4 g h a.2.group.few b.2.group.few (there p g a.2) (there p h b.2) (each_same g h same)

-- the move at a place
pub move_at : (P : Move → Type 0) (groups : List (List Want)) (moves : List KeptMove) (i : ℕ) → All P (moves_of groups moves) → i < length moves → P (move_of groups (slice_index_or moves i (KeptNext 0)))
move_at P groups [] i h k = absurd (omega arith)
move_at P groups (m ∷ moves) zero h k = h.0
move_at P groups (m ∷ moves) (suc i) h k = move_at P groups moves i h.1 (omega arith)

pub kept_at : (P : KeptMove → Type 0) (moves : List KeptMove) (i : ℕ) → All P moves → i < length moves → P (slice_index_or moves i (KeptNext 0))
kept_at P [] i h k = absurd (omega arith)
kept_at P (m ∷ moves) zero h k = h.0
kept_at P (m ∷ moves) (suc i) h k = kept_at P moves i h.1 (omega arith)

-- none of the moves so far starts the group
pub elsewhere_more : (groups : List (List Want)) (members : List Want) (moves : List KeptMove) (i : ℕ) → All (λ m. move_of groups m ≢ Start members) (take i moves) → i < length moves →
    move_of groups (slice_index_or moves i (KeptNext 0)) ≢ Start members → All (λ m. move_of groups m ≢ Start members) (take (i + 1) moves)
elsewhere_more groups members [] i h k d = absurd (omega arith)
elsewhere_more groups members (m ∷ moves) zero h k d = (d, tt)
elsewhere_more groups members (m ∷ moves) (suc i) h k d =
    let e : suc (i + 1) ≡ suc i + 1 = omega arith in
    subst (λ n. All (λ m. move_of groups m ≢ Start members) (take n (m ∷ moves))) e (h.0, elsewhere_more groups members moves i h.1 (omega arith) d)

none_starts : (groups : List (List Want)) (members : List Want) (moves : List KeptMove) → All (λ m. move_of groups m ≢ Start members) moves → Has (moves_of groups moves) (Start members) → ⊥
none_starts groups members [] h k = k
none_starts groups members (m ∷ moves) h (inl e) = h.0 e
none_starts groups members (m ∷ moves) h (inr k) = none_starts groups members moves h.1 k

-- one of all moves does
pub found_start : (x : Position) (members : List Want) (moves : List KeptMove) (i : ℕ) → AreMoves x.problem (moves_of x.groups moves) → IsMove x.problem (Start members) → length moves ≤ i →
    All (λ m. move_of x.groups m ≢ Start members) (take i moves) → ⊥
found_start x members moves i are move past h =
    none_starts x.groups members moves (subst (All (λ m. move_of x.groups m ≢ Start members)) (take_all i moves past) h) (are.each (Start members) move)

-- where there are members a group starts
pub begins_some : (lun : ℕ) (members : List Want) → (length members == 0) ≡ false → move_by lun members ≡ Start members
begins_some lun [] h = absurd (false≢true (sym h))
begins_some lun (m ∷ ms) h = refl
