-- The groups from one place of the table to another.
use Rattle.std.proofs.Common.{◌≡◌, ℕ, zero, suc, ◌+◌, ◌-◌, ◌≤◌, ◌<◌, inl, inr, Bool, true, false, List, [], ◌∷◌, ◌++◌, length, map, take, drop, get_or, refl, sym, ap, ◌∙◌, subst, arith}
use Rattle.std.specs.Prelude.{slice_range, slice_index_or}
use Rattle.std.specs.List.{filter, AllByRecursion as All}
use Rattle.std.proofs.lemmas.Bool.{cases_Bool}
use Rattle.std.proofs.lemmas.List.Elements.{filter-append}
use Rattle.std.proofs.lemmas.List.{take_more, map_push, append-nil, append_assoc, length-append, length-map, length-drop, length-take, get_or-drop, get_or-take}
use Rattle.onfi_request.specs.declared.want.Want.{Want}
use Rattle.onfi_problem.specs.declared.moves.Move.{Move as KeptMove}
use Rattle.onfi_problem.specs.declared.moves.Move.TheVariants.{Start as KeptStart}
use Rattle.onfi_group.specs.Group.{lun_of}
use Rattle.onfi_problem.specs.Moves.{Start}
use Rattle.onfi_problem.specs.Position.{move_of, moves_of}
use Rattle.onfi_problem.specs.Starts.{can_start, starts, IsNamed}
use Rattle.onfi_problem.proofs.Perm.{All-append}
use Rattle.onfi_problem.proofs.Lists.{all_at}

range_more : {A : Type 0} (xs : List A) (from place : ℕ) (d : A) → from ≤ place → place < length xs → slice_range xs from (place + 1) ≡ slice_range xs from place ++ get_or xs place d ∷ []
range_more xs from place d h k =
    let l = length-drop from xs in
    let s : place - from < length (drop from xs) = omega arith in
    let e : place + 1 - from ≡ place - from + 1 = omega arith in
    let a : from + (place - from) ≡ place = omega arith in
    let g : get_or (drop from xs) (place - from) d ≡ get_or xs place d = get_or-drop from xs (place - from) d ∙ ap (λ n. get_or xs n d) a in
    ap (λ n. take n (drop from xs)) e ∙ (take_more (drop from xs) (place - from) d s ∙ ap (λ z. take (place - from) (drop from xs) ++ z ∷ []) g)

filter_yes : {A : Type 0} (test : A → Bool) (xs : List A) (y : A) → test y ≡ true → filter test (xs ++ y ∷ []) ≡ filter test xs ++ y ∷ []
filter_yes test xs y h = filter-append test xs (y ∷ []) ∙ rw h refl

filter_no : {A : Type 0} (test : A → Bool) (xs : List A) (y : A) → test y ≡ false → filter test (xs ++ y ∷ []) ≡ filter test xs
filter_no test xs y h = filter-append test xs (y ∷ []) ∙ rw h (append-nil (filter test xs))

filter_part : {A : Type 0} (test : A → Bool) (xs : List A) (a b : ℕ) → a ≤ b → length (filter test (take a xs)) ≤ length (filter test (take b xs))
filter_part test xs zero b h = omega arith
filter_part test [] (suc a) zero h = omega arith
filter_part test [] (suc a) (suc b) h = omega arith
filter_part test (x ∷ xs) (suc a) zero h = absurd (omega arith)
filter_part test (x ∷ xs) (suc a) (suc b) h = let e = filter_part test xs a b (omega arith) in elim (cases_Bool (test x)) [ inl k ↦ rw k (omega arith) | inr k ↦ rw k (omega arith) ]

module _ (wants : List Want) (groups : List (List Want)) (from : ℕ) where
  pub starts_yes : (place : ℕ) → from ≤ place → place < length groups → can_start wants (slice_index_or groups place []) ≡ true → starts wants groups from (place + 1) ≡ starts wants groups from place ++ Start (slice_index_or groups place []) ∷ []
  starts_yes place h k c =
      let e = range_more groups from place [] h k in
      let f = filter_yes (can_start wants) (slice_range groups from place) (slice_index_or groups place []) c in
      ap (λ z. map (λ (g : List Want). Start g) (filter (can_start wants) z)) e ∙ (ap (λ z. map (λ (g : List Want). Start g) z) f ∙ map_push (λ (g : List Want). Start g) (filter (can_start wants) (slice_range groups from place)) (slice_index_or groups place []))

  pub starts_no : (place : ℕ) → from ≤ place → place < length groups → can_start wants (slice_index_or groups place []) ≡ false → starts wants groups from (place + 1) ≡ starts wants groups from place
  starts_no place h k c =
      let e = range_more groups from place [] h k in
      let f = filter_no (can_start wants) (slice_range groups from place) (slice_index_or groups place []) c in
      ap (λ z. map (λ (g : List Want). Start g) (filter (can_start wants) z)) e ∙ ap (λ z. map (λ (g : List Want). Start g) z) f

  pub starts_part : (place to : ℕ) → place ≤ to → length (starts wants groups from place) ≤ length (starts wants groups from to)
  starts_part place to h =
      let a = length-map (filter (can_start wants) (slice_range groups from place)) (λ (g : List Want). Start g) in
      let b = length-map (filter (can_start wants) (slice_range groups from to)) (λ (g : List Want). Start g) in
      let p : place - from ≤ to - from = omega arith in
      let q = filter_part (can_start wants) (drop from groups) (place - from) (to - from) p in
      omega arith

  -- what holds of the groups of a range holds of the one at a place of it
  pub at_in_range : (P : List Want → Type 0) (place to : ℕ) → from ≤ place → place < to → to ≤ length groups →
      All P (slice_range groups from to) → P (slice_index_or groups place [])
  at_in_range P place to h k l a =
      let i = place - from in
      let n : i < to - from = omega arith in
      let d = length-drop from groups in
      let t = length-take (to - from) (drop from groups) in
      let p = all_at P (slice_range groups from to) i [] (omega arith) a in
      let e : from + i ≡ place = omega arith in
      let q : get_or (slice_range groups from to) i [] ≡ get_or groups place [] =
      get_or-take (to - from) (drop from groups) i [] n ∙ (get_or-drop from groups i [] ∙ ap (λ z. get_or groups z []) e) in
      subst P q p

  -- there is room for one move more
  pub room_for : (place to : ℕ) (old moves : List KeptMove) → from ≤ place → place < to → to ≤ length groups → can_start wants (slice_index_or groups place []) ≡ true → moves_of groups moves ≡ moves_of groups old ++ starts wants groups from place → length old + length (starts wants groups from to) ≤ 87 → length moves < 87
  room_for place to old moves h k l c e room =
      let m = length-map moves (move_of groups) in
      let o = length-map old (move_of groups) in
      let q = ap length e in
      let a = length-append (moves_of groups old) (starts wants groups from place) in
      let y = ap length (starts_yes place h (omega arith) c) in
      let b = length-append (starts wants groups from place) (Start (slice_index_or groups place []) ∷ []) in
      let p = starts_part (place + 1) to (omega arith) in
      omega arith

  pub one_started : (lun place : ℕ) (old moves : List KeptMove) → from ≤ place → place < length groups → can_start wants (slice_index_or groups place []) ≡ true → moves_of groups moves ≡ moves_of groups old ++ starts wants groups from place → moves_of groups (moves ++ KeptStart lun place ∷ []) ≡ moves_of groups old ++ starts wants groups from (place + 1)
  one_started lun place old moves h k c e =
      let p = map_push (move_of groups) moves (KeptStart lun place) in
      let y = starts_yes place h k c in
      p ∙ (ap (λ z. z ++ Start (slice_index_or groups place []) ∷ []) e ∙ (append_assoc (moves_of groups old) (starts wants groups from place) (Start (slice_index_or groups place []) ∷ []) ∙ ap (λ z. moves_of groups old ++ z) (sym y)))

pub named_more : (groups : List (List Want)) (lun place : ℕ) (moves : List KeptMove) → lun < 8 → lun_of (slice_index_or groups place []) ≡ lun → All (IsNamed groups) moves → All (IsNamed groups) (moves ++ KeptStart lun place ∷ [])
named_more groups lun place moves few e a = All-append (IsNamed groups) moves (KeptStart lun place ∷ []) a (record { lun = e; few = few }, tt)
