-- The moves of a position, from its table.
use Rattle.std.proofs.Common.{◌≡◌, ◌≢◌, ℕ, zero, suc, ◌+◌, ◌-◌, ◌≤◌, ◌<◌, Bool, true, List, [], ◌∷◌, ◌++◌, length, take, drop, get_or, refl, sym, ap, ◌∙◌, arith}
use Rattle.std.specs.Prelude.{slice_index, slice_index_or, slice_range}
use Rattle.std.specs.List.{AllByRecursion as All}
use Rattle.std.proofs.lemmas.List.{length-append, length-map, length-take, length-drop, get_or-map, map_push, take_all}
use Rattle.std.proofs.lemmas.Bool.{eq-eqb, ne_eqb}
use Rattle.onfi_timing.specs.declared.timing.Timing.{Timing}
use Rattle.onfi_request.specs.declared.want.Want.{Want}
use Rattle.onfi_group.specs.declared.rules.Rules.{Rules}
use Rattle.onfi_group.specs.Words.{Has, Pairs}
use Rattle.onfi_group.specs.Group.{IsStartable, lun_of, mask_of}
use Rattle.onfi_group.specs.Listing.{IsCandidate, AreCandidates}
use Rattle.onfi_problem.specs.declared.moves.Lun.{Lun}
use Rattle.onfi_problem.specs.declared.start_marks.StartMarks.{StartMarks}
use Rattle.onfi_problem.specs.Problem.{IsWant}
use Rattle.onfi_problem.specs.declared.moves.Move.{Move as KeptMove}
use Rattle.onfi_problem.specs.declared.moves.Move.TheVariants.{Next as KeptNext}
use Rattle.onfi_problem.specs.Moves.{AreMoves, Next}
use Rattle.onfi_problem.specs.Position.{Position, waiting_of, state_of, move_of, moves_of}
use Rattle.onfi_problem.specs.Kept.{IsKept, IsTable, position_of}
use Rattle.onfi_problem.specs.Starts.{can_start, starts, IsNamed}
use Rattle.onfi_problem.proofs.Perm.{All-append, All-has, All-weaker}
use Rattle.onfi_group.proofs.Lists.{Pairs-each}
use Rattle.onfi_group.proofs.Counting.{IsChoice, apart_by}
use Rattle.onfi_problem.specs.StartMarks.{start_marks, are_met}
use Rattle.onfi_problem.proofs.StartMarks.{met_starts}
use Rattle.onfi_problem.proofs.Firsts.{startable_of, candidate_of, passes, startable_order}
use Rattle.onfi_problem.proofs.Ordered.{moves_from, lun_moves, owned, few_moves, room_more, from_more, table_moves, IsListed, owned_few}

-- the groups of the table that a LUN's wants can form
abbrev pub own_groups : List (List Want) → List ℕ → ℕ → List (List Want)
own_groups groups first l = slice_range groups (slice_index first l) (slice_index first (l + 1))

module _ (timing : Timing) (rules : Rules) (bus_free : ℕ) (luns : List Lun) (all : List Want) (marks : List Bool) (groups : List (List Want)) (first : List ℕ) (tests : List StartMarks) (k : IsKept (position_of timing rules bus_free luns all marks groups)) (t : IsTable rules all (length luns) groups first tests) where
  abbrev now : Position
  now = position_of timing rules bus_free luns all marks groups

  abbrev pub own : ℕ → List (List Want)
  own l = own_groups groups first l

  abbrev pub can : List Want → Bool
  can g = can_start (waiting_of marks all) g

  luns_length : length now.problem.luns ≡ length luns
  luns_length = length-map luns (state_of groups)

  candidates_at : (l : ℕ) → l < length now.problem.luns → AreCandidates rules all l (own l)
  candidates_at l h = (t.own l (rw luns_length at h)).candidates

  right : (l : ℕ) (g : List Want) → l < length now.problem.luns → Has (own l) g → can g ≡ true → (lun_of g ≡ l) × IsStartable rules now.problem.wants g
  right l g h i c =
      let a = All-has (IsCandidate rules all l) (own l) g (candidates_at l h).only i in
      (a.lun, startable_of rules all marks k.ids l g a c)

  full : (g : List Want) → lun_of g < length now.problem.luns → IsStartable rules now.problem.wants g → Has (own (lun_of g)) g × (can g ≡ true)
  full g h s = ((candidates_at (lun_of g) h).each g (candidate_of rules all marks k.ids g s), passes rules all marks k.ids g s)

  sorted : (l : ℕ) → l < length now.problem.luns → Pairs (λ g h. can g ≡ true → can h ≡ true → mask_of now.problem.wants g < mask_of now.problem.wants h) (own l)
  sorted l h = Pairs-each _ _ (own l) (candidates_at l h).order (λ a b i j lt c d. startable_order rules all marks k.ids a b (right l a h i c).1 (right l b h j d).1 lt)

  -- the list that is made is that of the moves
  pub steps_moves : AreMoves now.problem (moves_from own can 0 now.problem.luns)
  steps_moves = table_moves now.problem own can right full sorted

  listed : (l : ℕ) → l < length luns → IsListed all l (own l)
  listed l h =
      let c = (t.own l h).candidates in
      record {
        chosen = All-weaker (IsCandidate rules all l) (IsChoice all) (λ g i. (i.group.some, i.group.planes, i.listed)) (own l) c.only;
        lun = All-weaker (IsCandidate rules all l) _ (λ g i. i.lun) (own l) c.only;
        once = apart_by (mask_of all) (own l) c.order;
      }

  planes : All (λ w. w.plane ≤ 3) all
  planes = All-weaker _ _ (λ w (h : IsWant w). h.plane) all k.wants

  all_owned : length (owned own can (length luns)) ≤ 80
  all_owned = owned_few all own can k.few planes (length luns) listed

  pub steps_few : length (moves_from own can 0 now.problem.luns) ≤ 87
  steps_few =
      let e = luns_length in
      let o : length (owned own can (length now.problem.luns)) ≤ 80 = rw e all_owned in
      few_moves own can now.problem.luns k.limits.small.few_luns o

  -- the table has at most 88 groups
  pub place_is : (n : ℕ) → n ≤ length luns → slice_index first n ≡ slice_index first 0 + length (owned own can n)
  place_is zero h = omega arith
  place_is (suc n) h =
      let e = place_is n (omega arith) in
      let s : suc n ≡ n + 1 = omega arith in
      let o = t.own n (omega arith) in
      let a = length-append (owned own can n) (own n) in
      let d = length-drop (slice_index first n) groups in
      let l = length-take (slice_index first (n + 1) - slice_index first n) (drop (slice_index first n) groups) in
      rw s (omega arith)

  pub places_few : (n : ℕ) → n ≤ length luns → slice_index first n ≤ 88
  places_few n h =
      let e = place_is n h in
      let f = owned_few all own can k.few planes n (λ l i. listed l (omega arith)) in
      omega arith

  pub luns_of_own : (l : ℕ) → l < length luns → All (λ g. lun_of g ≡ l) (own l)
  luns_of_own l h = (listed l h).lun

  pub own_listed : (l : ℕ) → l < length luns → All (λ g. All (Has all) g) (own l)
  own_listed l h = All-weaker (IsCandidate rules all l) _ (λ g i. i.listed) (own l) (t.own l h).candidates.only

  -- what the marks of a group say
  pub marks_tell : (place : ℕ) (d : StartMarks) → place < length groups → length marks ≡ 8 → All (Has all) (slice_index_or groups place []) →
      are_met marks (get_or tests place d).asked (get_or tests place d).members ≡ can (slice_index_or groups place [])
  marks_tell place d h long i =
      let e : get_or tests place d ≡ start_marks all (get_or groups place []) =
      ap (λ z. get_or z place d) t.asked ∙ get_or-map (start_marks all) groups place [] d h in
      rw e (met_starts all (get_or groups place []) marks k.ids i k.limits.problem.ids k.few long)

  state_here : (l : ℕ) (d : Lun) → l < length luns → get_or now.problem.luns l (state_of groups d) ≡ state_of groups (get_or luns l d)
  state_here l d h = get_or-map (state_of groups) luns l d (state_of groups d) h

  free_moves : (l : ℕ) (d : Lun) → l < length luns → (get_or luns l d).next ≡ 0 → lun_moves own can l (get_or now.problem.luns l (state_of groups d)) ≡ starts now.problem.wants groups (slice_index first l) (slice_index first (l + 1))
  free_moves l d h e = rw (state_here l d h) (rw (eq-eqb (get_or luns l d).next 0 e) refl)

  run_moves : (l : ℕ) (d : Lun) → l < length luns → (get_or luns l d).next ≢ 0 → lun_moves own can l (get_or now.problem.luns l (state_of groups d)) ≡ Next l ∷ []
  run_moves l d h e = rw (state_here l d h) (rw (ne_eqb (get_or luns l d).next 0 e) refl)

  module _ (l : ℕ) (d : Lun) (h : l < length luns) (moves : List KeptMove) (so_far : moves_of groups moves ≡ moves_from own can 0 (take l now.problem.luns)) where
    here : l < length now.problem.luns
    here = rw luns_length h

    so_many : length moves + length (lun_moves own can l (get_or now.problem.luns l (state_of groups d))) ≤ 87
    so_many =
        let r = room_more own can now.problem.luns l (state_of groups d) here steps_few in
        let m = length-map moves (move_of groups) in
        let e = ap length so_far in
        omega arith

    pub free_room : (get_or luns l d).next ≡ 0 → length moves + length (starts now.problem.wants groups (slice_index first l) (slice_index first (l + 1))) ≤ 87
    free_room e = let q = ap length (free_moves l d h e) in let s = so_many in omega arith

    pub run_room : (get_or luns l d).next ≢ 0 → length moves < 87
    run_room e = let q = ap length (run_moves l d h e) in let s = so_many in omega arith

    pub free_more : (new : List KeptMove) → (get_or luns l d).next ≡ 0 → moves_of groups new ≡ moves_of groups moves ++ starts now.problem.wants groups (slice_index first l) (slice_index first (l + 1)) → moves_of groups new ≡ moves_from own can 0 (take (l + 1) now.problem.luns)
    free_more new e n =
        let q = free_moves l d h e in
        let f = from_more own can now.problem.luns l (state_of groups d) here in
        n ∙ (ap (λ z. z ++ starts now.problem.wants groups (slice_index first l) (slice_index first (l + 1))) so_far ∙ (ap (λ z. moves_from own can 0 (take l now.problem.luns) ++ z) (sym q) ∙ sym f))

    pub run_more : (get_or luns l d).next ≢ 0 → moves_of groups (moves ++ KeptNext l ∷ []) ≡ moves_from own can 0 (take (l + 1) now.problem.luns)
    run_more e =
        let q = run_moves l d h e in
        let f = from_more own can now.problem.luns l (state_of groups d) here in
        let p = map_push (move_of groups) moves (KeptNext l) in
        p ∙ (ap (λ z. z ++ Next l ∷ []) so_far ∙ (ap (λ z. moves_from own can 0 (take l now.problem.luns) ++ z) (sym q) ∙ sym f))

  module _ (moves : List KeptMove) (l : ℕ) (end : length luns ≤ l) (all_of : moves_of groups moves ≡ moves_from own can 0 (take l now.problem.luns)) where
    at_end : moves_of groups moves ≡ moves_from own can 0 now.problem.luns
    at_end = let e = luns_length in all_of ∙ ap (moves_from own can 0) (take_all l now.problem.luns (omega arith))

    pub end_moves : AreMoves now.problem (moves_of groups moves)
    end_moves = rw at_end steps_moves

    pub end_few : length moves ≤ 87
    end_few = let m = length-map moves (move_of groups) in let e = ap length at_end in let f = steps_few in omega arith

pub named_next : (groups : List (List Want)) (lun : ℕ) (moves : List KeptMove) → lun < 8 → All (IsNamed groups) moves → All (IsNamed groups) (moves ++ KeptNext lun ∷ [])
named_next groups lun moves few a = All-append (IsNamed groups) moves (KeptNext lun ∷ []) a (record { lun = refl; few = few }, tt)
