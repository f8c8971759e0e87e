-- The moves of a problem, LUN by LUN, from a list of groups for each LUN.
use Rattle.std.proofs.Common.{◌≡◌, ◌≢◌, ℕ, zero, suc, ◌+◌, ◌≤◌, ◌<◌, inl, inr, Bool, true, List, [], ◌∷◌, ◌++◌, length, map, take, get_or, Some, refl, sym, ap, ◌∙◌, subst, arith}
use Rattle.std.specs.Prelude.{slice_get}
use Rattle.std.specs.List.{filter, AllByRecursion as All}
use Rattle.std.proofs.lemmas.Bool.{cases_Bool, cases_lt}
use Rattle.std.proofs.lemmas.List.{length-append, length-map, append_assoc, append-nil}
use Rattle.onfi_request.specs.declared.want.Want.{Want}
use Rattle.onfi_group.specs.Words.{Has, Pairs}
use Rattle.onfi_group.specs.Group.{IsStartable, lun_of, mask_of}
use Rattle.onfi_problem.specs.declared.lun_state.LunState.{LunState}
use Rattle.onfi_problem.specs.declared.lun_state.LunState.TheVariants.{Free, Running}
use Rattle.onfi_problem.specs.Problem.{Problem}
use Rattle.onfi_problem.specs.Moves.{Move, Next, Start, IsMove, move_lun, ComesBefore, AreMoves}
use Rattle.onfi_problem.proofs.Perm.{All-append, All-has, All-each, All-weaker, Has-append_left, Has-append_right, Has-map}
use Rattle.onfi_problem.proofs.Places.{within_get}
use Rattle.onfi_group.proofs.Counting.{IsChoice, few_groups}
pub use Rattle.onfi_group.proofs.Lists.{Pairs-append}
use Rattle.onfi_group.proofs.Lists.{Pairs-each}
use Rattle.onfi_problem.proofs.Wants.{filter_shorter, Has-filter}

module _ (own : ℕ → List (List Want)) (can : List Want → Bool) where
  abbrev starts_of : List (List Want) → List Move
  starts_of gs = map (λ g. Start g) (filter can gs)

  -- what holds of those that can be started
  All-started : (P : Move → Type 0) (gs : List (List Want)) → All (λ g. can g ≡ true → P (Start g)) gs → All P (starts_of gs)
  All-started P [] h = tt
  All-started P (g ∷ gs) h = elim (cases_Bool (can g)) [ inl k ↦ rw k (h.0 k, All-started P gs h.1) | inr k ↦ rw k (All-started P gs h.1) ]

  Pairs-started : (R : Move → Move → Type 0) (gs : List (List Want)) → Pairs (λ g h. can g ≡ true → can h ≡ true → R (Start g) (Start h)) gs → Pairs R (starts_of gs)
  Pairs-started R [] h = tt
  Pairs-started R (g ∷ gs) h = elim (cases_Bool (can g)) [
    | inl k ↦ rw k (All-started (R (Start g)) gs (All-weaker _ _ (λ x f. f k) gs h.0), Pairs-started R gs h.1)
    | inr k ↦ rw k (Pairs-started R gs h.1)
  ]

  -- a running LUN has its next phase, a free one those of its groups that can be started
  abbrev pub lun_moves : ℕ → LunState → List Move
  lun_moves l (Free since) = starts_of (own l)
  lun_moves l (Running g n r) = Next l ∷ []

  abbrev pub moves_from : ℕ → List LunState → List Move
  moves_from l [] = []
  moves_from l (x ∷ luns) = lun_moves l x ++ moves_from (l + 1) luns

  -- the groups of that many LUNs
  abbrev pub owned : ℕ → List (List Want)
  owned zero = []
  owned (suc n) = owned n ++ own n

  abbrev running : List LunState → ℕ
  running [] = 0
  running (Free since ∷ luns) = running luns
  running (Running g n r ∷ luns) = 1 + running luns

  length_from : (l : ℕ) (luns : List LunState) → length (moves_from l luns) + length (owned l) ≤ running luns + length (owned (l + length luns))
  length_from l [] = let z : l + 0 ≡ l = omega arith in rw z (omega arith)
  length_from l (Free since ∷ luns) =
      let e = length_from (l + 1) luns in
      let s : l + 1 ≡ suc l = omega arith in
      let z : l + suc (length luns) ≡ l + 1 + length luns = omega arith in
      let o : length (owned (l + 1)) ≡ length (owned l) + length (own l) = rw s (length-append (owned l) (own l)) in
      let a = length-append (starts_of (own l)) (moves_from (l + 1) luns) in
      let m = length-map (filter can (own l)) (λ (g : List Want). Start g) in
      let f = filter_shorter can (own l) in
      rw z (omega arith)
  length_from l (Running g n r ∷ luns) =
      let e = length_from (l + 1) luns in
      let s : l + 1 ≡ suc l = omega arith in
      let z : l + suc (length luns) ≡ l + 1 + length luns = omega arith in
      let o : length (owned (l + 1)) ≡ length (owned l) + length (own l) = rw s (length-append (owned l) (own l)) in
      rw z (omega arith)

  running_few : (luns : List LunState) → running luns ≤ length luns
  running_few [] = omega arith
  running_few (Free since ∷ luns) = let e = running_few luns in omega arith
  running_few (Running g n r ∷ luns) = let e = running_few luns in omega arith

  all_running : (l : ℕ) (luns : List LunState) → running luns ≡ length luns → length (moves_from l luns) ≡ length luns
  all_running l [] h = refl
  all_running l (Free since ∷ luns) h = let e = running_few luns in absurd (omega arith)
  all_running l (Running g n r ∷ luns) h = let e = all_running (l + 1) luns (omega arith) in omega arith

  -- 80 groups, and seven LUNs beside the one that they are of
  pub few_moves : (luns : List LunState) → length luns ≤ 8 → length (owned (length luns)) ≤ 80 → length (moves_from 0 luns) ≤ 87
  few_moves luns few most =
      let a = length_from 0 luns in
      let z : 0 + length luns ≡ length luns = omega arith in
      let q = rw z at a in
      let r = running_few luns in
      elim (cases_lt (running luns) (length luns)) [
        | inl lt ↦ omega arith
        | inr ge ↦ (let e = all_running 0 luns (omega arith) in omega arith)
      ]

  -- one LUN more
  from_suc : (l : ℕ) (luns : List LunState) (i : ℕ) (d : LunState) → i < length luns → moves_from l (take (suc i) luns) ≡ moves_from l (take i luns) ++ lun_moves (l + i) (get_or luns i d)
  from_suc l [] i d h = absurd (omega arith)
  from_suc l (x ∷ luns) zero d h = let z : l + 0 ≡ l = omega arith in rw z (append-nil (lun_moves l x))
  from_suc l (x ∷ luns) (suc i) d h =
      let e = from_suc (l + 1) luns i d (omega arith) in
      let z : l + 1 + i ≡ l + suc i = omega arith in
      let e' = subst (λ n. moves_from (l + 1) (take (suc i) luns) ≡ moves_from (l + 1) (take i luns) ++ lun_moves n (get_or luns i d)) z e in
      ap (λ m. lun_moves l x ++ m) e' ∙ sym (append_assoc (lun_moves l x) (moves_from (l + 1) (take i luns)) (lun_moves (l + suc i) (get_or luns i d)))

  pub from_more : (luns : List LunState) (i : ℕ) (d : LunState) → i < length luns → moves_from 0 (take (i + 1) luns) ≡ moves_from 0 (take i luns) ++ lun_moves i (get_or luns i d)
  from_more luns i d h =
      let z : 0 + i ≡ i = omega arith in
      let s : suc i ≡ i + 1 = omega arith in
      let e = subst (λ n. moves_from 0 (take (suc i) luns) ≡ moves_from 0 (take i luns) ++ lun_moves n (get_or luns i d)) z (from_suc 0 luns i d h) in
      subst (λ n. moves_from 0 (take n luns) ≡ moves_from 0 (take i luns) ++ lun_moves i (get_or luns i d)) s e

  part_of : (l : ℕ) (luns : List LunState) (n : ℕ) → length (moves_from l (take n luns)) ≤ length (moves_from l luns)
  part_of l luns zero = omega arith
  part_of l [] (suc n) = omega arith
  part_of l (x ∷ luns) (suc n) =
      let e = part_of (l + 1) luns n in
      let a = length-append (lun_moves l x) (moves_from (l + 1) (take n luns)) in
      let b = length-append (lun_moves l x) (moves_from (l + 1) luns) in
      omega arith

  -- there is room for the moves of one LUN more
  pub room_more : (luns : List LunState) (i : ℕ) (d : LunState) → i < length luns → length (moves_from 0 luns) ≤ 87 → length (moves_from 0 (take i luns)) + length (lun_moves i (get_or luns i d)) ≤ 87
  room_more luns i d h most =
      let e = ap length (from_more luns i d h) in
      let a = length-append (moves_from 0 (take i luns)) (lun_moves i (get_or luns i d)) in
      let p = part_of 0 luns (i + 1) in
      omega arith

-- groups of a LUN each, none twice
pub record IsListed (wants : List Want) (at : ℕ) (groups : List (List Want)) : Type 0 where
  pub chosen : All (IsChoice wants) groups
  pub lun : All (λ g. lun_of g ≡ at) groups
  pub once : Pairs (λ a b. a ≢ b) groups

module _ (wants : List Want) (own : ℕ → List (List Want)) (can : List Want → Bool) (few : length wants ≤ 8) (planes : All (λ w. w.plane ≤ 3) wants) where
  owned_groups : (n : ℕ) → ((l : ℕ) → l < n → IsListed wants l (own l)) → All (IsChoice wants) (owned own can n)
  owned_groups zero f = tt
  owned_groups (suc n) f = All-append _ (owned own can n) (own n) (owned_groups n (λ l h. f l (omega arith))) (f n (omega arith)).chosen

  owned_below : (n : ℕ) → ((l : ℕ) → l < n → IsListed wants l (own l)) → All (λ g. lun_of g < n) (owned own can n)
  owned_below zero f = tt
  owned_below (suc n) f =
      All-append _ (owned own can n) (own n)
      (All-each _ (owned own can n) (λ g h. let a = All-has _ (owned own can n) g (owned_below n (λ l k. f l (omega arith))) h in omega arith))
      (All-each _ (own n) (λ g h. let a = All-has _ (own n) g (f n (omega arith)).lun h in omega arith))

  owned_once : (n : ℕ) → ((l : ℕ) → l < n → IsListed wants l (own l)) → Pairs (λ a b. a ≢ b) (owned own can n)
  owned_once zero f = tt
  owned_once (suc n) f =
      Pairs-append (λ a b. a ≢ b) (owned own can n) (own n) (owned_once n (λ l k. f l (omega arith))) (f n (omega arith)).once
      (λ g h i j e.
      let a = All-has _ (owned own can n) g (owned_below n (λ l k. f l (omega arith))) i in
      let b = All-has _ (own n) h (f n (omega arith)).lun j in
      let s : lun_of g ≡ lun_of h = ap lun_of e in
      omega arith)

  pub owned_few : (n : ℕ) → ((l : ℕ) → l < n → IsListed wants l (own l)) → length (owned own can n) ≤ 80
  owned_few n f = few_groups wants (owned own can n) few planes (owned_groups n f) (owned_once n f)

module _ (p : Problem) (own : ℕ → List (List Want)) (can : List Want → Bool)
    (right : (l : ℕ) (g : List Want) → l < length p.luns → Has (own l) g → can g ≡ true → (lun_of g ≡ l) × IsStartable p.rules p.wants g)
    (full : (g : List Want) → lun_of g < length p.luns → IsStartable p.rules p.wants g → Has (own (lun_of g)) g × (can g ≡ true))
    (sorted : (l : ℕ) → l < length p.luns → Pairs (λ g h. can g ≡ true → can h ≡ true → mask_of p.wants g < mask_of p.wants h) (own l)) where
  lun_only : (l : ℕ) (x : LunState) → slice_get p.luns l ≡ Some x → All (λ m. IsMove p m × (move_lun m ≡ l)) (lun_moves own can l x)
  lun_only l (Free since) at = All-started own can (λ m. IsMove p m × (move_lun m ≡ l)) (own l) (All-each _ (own l) (λ g i k.
      let r = right l g (within_get p.luns l _ at) i k in
      ((since, subst (λ z. slice_get p.luns z ≡ Some (Free since)) (sym r.0) at, r.1), r.0)))
  lun_only l (Running g n r) at = (((g, n, r, at), refl), tt)

  abbrev Placed : ℕ → List LunState → Type 0
  Placed l luns = (i : ℕ) (x : LunState) → slice_get luns i ≡ Some x → slice_get p.luns (l + i) ≡ Some x

  placed_next : (l : ℕ) (x : LunState) (luns : List LunState) → Placed l (x ∷ luns) → Placed (l + 1) luns
  placed_next l x luns h i y e = let q : l + suc i ≡ l + 1 + i = omega arith in subst (λ z. slice_get p.luns z ≡ Some y) q (h (suc i) y e)

  placed_first : (l : ℕ) (x : LunState) (luns : List LunState) → Placed l (x ∷ luns) → slice_get p.luns l ≡ Some x
  placed_first l x luns h = let q : l + 0 ≡ l = omega arith in subst (λ z. slice_get p.luns z ≡ Some x) q (h 0 x refl)

  only : (l : ℕ) (luns : List LunState) → Placed l luns → All (λ m. IsMove p m × (l ≤ move_lun m)) (moves_from own can l luns)
  only l [] h = tt
  only l (x ∷ luns) h =
      All-append _ (lun_moves own can l x) (moves_from own can (l + 1) luns)
      (All-each _ (lun_moves own can l x) (λ m k. let a = All-has _ (lun_moves own can l x) m (lun_only l x (placed_first l x luns h)) k in let e = a.1 in (a.0, omega arith)))
      (All-each _ (moves_from own can (l + 1) luns) (λ m k. let a = All-has _ (moves_from own can (l + 1) luns) m (only (l + 1) luns (placed_next l x luns h)) k in let e = a.1 in (a.0, omega arith)))

  in_starts : (gs : List (List Want)) (g : List Want) → Has gs g → can g ≡ true → Has (starts_of own can gs) (Start g)
  in_starts gs g h k = Has-map (λ x. Start x) (filter can gs) g (Has-filter can gs g h k)

  in_from : (l i lun : ℕ) (luns : List LunState) (x : LunState) (m : Move) → l + i ≡ lun → slice_get luns i ≡ Some x → Has (lun_moves own can lun x) m → Has (moves_from own can l luns) m
  in_from l i lun [] x m e at h = cc
  in_from l zero lun (y ∷ luns) x m e at h =
      let same : y ≡ x = cc in
      let here : l ≡ lun = omega arith in
      Has-append_left (lun_moves own can l y) (moves_from own can (l + 1) luns) m (rw (here, same) h)
  in_from l (suc i) lun (y ∷ luns) x m e at h = Has-append_right (lun_moves own can l y) (moves_from own can (l + 1) luns) m (in_from (l + 1) i lun luns x m (omega arith) at h)

  each_move : (m : Move) → IsMove p m → Has (moves_from own can 0 p.luns) m
  each_move (Next l) (g, n, r, at) = in_from 0 l l p.luns (Running g n r) (Next l) (omega arith) at (inl refl)
  each_move (Start g) (since, at, st) =
      let f = full g (within_get p.luns (lun_of g) _ at) st in
      in_from 0 (lun_of g) (lun_of g) p.luns (Free since) (Start g) (omega arith) at (in_starts (own (lun_of g)) g f.0 f.1)

  lun_order : (l : ℕ) (x : LunState) → slice_get p.luns l ≡ Some x → Pairs (ComesBefore p) (lun_moves own can l x)
  lun_order l (Free since) at =
      let w = within_get p.luns l _ at in
      Pairs-started own can (ComesBefore p) (own l) (Pairs-each _ _ (own l) (sorted l w) (λ g h i j lt a b. inr ((right l g w i a).0 ∙ sym (right l h w j b).0, lt a b)))
  lun_order l (Running g n r) at = (tt, tt)

  order : (l : ℕ) (luns : List LunState) → Placed l luns → Pairs (ComesBefore p) (moves_from own can l luns)
  order l [] h = tt
  order l (x ∷ luns) h =
      Pairs-append (ComesBefore p) (lun_moves own can l x) (moves_from own can (l + 1) luns) (lun_order l x (placed_first l x luns h)) (order (l + 1) luns (placed_next l x luns h))
      (λ a b i j.
      let u = (All-has _ (lun_moves own can l x) a (lun_only l x (placed_first l x luns h)) i).1 in
      let v = (All-has _ (moves_from own can (l + 1) luns) b (only (l + 1) luns (placed_next l x luns h)) j).1 in
      inl (omega arith))

  whole : Placed 0 p.luns
  whole i x e = let z : i ≡ 0 + i = omega arith in subst (λ n. slice_get p.luns n ≡ Some x) z e

  -- LUN by LUN, and on a free one those of its groups that can start, these are the moves
  pub table_moves : AreMoves p (moves_from own can 0 p.luns)
  table_moves = record {
    moves_only = All-each _ (moves_from own can 0 p.luns) (λ m k. (All-has _ (moves_from own can 0 p.luns) m (only 0 p.luns whole) k).0);
    each = each_move;
    order = order 0 p.luns whole;
  }
