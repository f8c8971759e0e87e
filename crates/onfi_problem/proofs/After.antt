-- What a move leaves of a problem as it is kept.
use Rattle.std.proofs.Common.{◌≡◌, ℕ, ◌+◌, ◌*◌, ◌^◌, ◌≤◌, ◌<◌, inl, inr, Bool, List, [], length, get_or, map, Some, refl, sym, ap, ◌∙◌, subst, arith}
use Rattle.std.specs.Prelude.{slice_get, slice_set, slice_index_or, max}
use Rattle.std.proofs.lemmas.Bool.{cases_eq, eq-eqb, ne_eqb, cases_lt}
use Rattle.std.proofs.lemmas.List.{get_or_default, get_or_past, length-map}
use Rattle.onfi_timing.specs.declared.timing.Timing.{Timing}
use Rattle.onfi_timing.specs.Phases.{phase_length}
use Rattle.onfi_request.specs.declared.want.Want.{Want}
use Rattle.onfi_group.specs.declared.rules.Rules.{Rules}
use Rattle.onfi_group.specs.Group.{group_spans, lun_of}
use Rattle.onfi_problem.specs.declared.lun_state.LunState.{LunState}
use Rattle.onfi_problem.specs.declared.lun_state.LunState.TheVariants.{Free, Running}
use Rattle.onfi_problem.specs.declared.moves.Lun.{Lun}
use Rattle.onfi_problem.specs.declared.moves.Move.{Move as KeptMove}
use Rattle.onfi_problem.specs.declared.moves.Move.TheVariants.{Next as KeptNext, Start as KeptStart}
use Rattle.onfi_problem.specs.declared.moves.Undo.{Undo}
use Rattle.onfi_problem.specs.Problem.{Problem}
use Rattle.onfi_problem.specs.Moves.{Move, Next, Start, IsMove, move_lun, after, lun_after, without, free_from}
use Rattle.onfi_problem.specs.Left.{InLimits}
use Rattle.onfi_problem.specs.Position.{Position, state_of, waiting_of, moved, restored, move_of, lun_named}
use Rattle.onfi_problem.specs.Kept.{IsKept, problem_of, position_of}
use Rattle.onfi_problem.proofs.Lists.{map_set, map_found}
use Rattle.onfi_problem.proofs.Limits.{after_limits, bus_in_limits, lun_in_limits}
use Rattle.onfi_problem.proofs.Places.{within_get, length_set, set_back}

-- what a kept LUN that runs is known by
pub record RunsBy (groups : List (List Want)) (x : Lun) (g : List Want) (n r : ℕ) : Type 0 where
  pub group : slice_index_or groups x.place [] ≡ g
  pub next : x.next ≡ n
  pub time : x.time ≡ r

state_runs : (groups : List (List Want)) (x : Lun) (g : List Want) (n r : ℕ) → state_of groups x ≡ Running g n r → RunsBy groups x g n r
state_runs groups x g n r h = elim (cases_eq x.next 0) [
  | inl e ↦ (let k : Free x.time ≡ Running g n r = rw (eq-eqb x.next 0 e) at h in cc)
  | inr d ↦ (let k : Running (slice_index_or groups x.place []) x.next x.time ≡ Running g n r = rw (ne_eqb x.next 0 d) at h in record { group = cc; next = cc; time = cc })
]

pub runs_by : (groups : List (List Want)) (luns : List Lun) (l : ℕ) (d : Lun) (g : List Want) (n r : ℕ) → slice_get (map (state_of groups) luns) l ≡ Some (Running g n r) → RunsBy groups (get_or luns l d) g n r
runs_by groups luns l d g n r at = state_runs groups (get_or luns l d) g n r (map_found (state_of groups) luns l d _ at)

-- .. and one that is free
state_free : (groups : List (List Want)) (x : Lun) (since : ℕ) → state_of groups x ≡ Free since → x.time ≡ since
state_free groups x since h = elim (cases_eq x.next 0) [
  | inl e ↦ (let k : Free x.time ≡ Free since = rw (eq-eqb x.next 0 e) at h in cc)
  | inr d ↦ (let k : Running (slice_index_or groups x.place []) x.next x.time ≡ Free since = rw (ne_eqb x.next 0 d) at h in cc)
]

pub free_by : (groups : List (List Want)) (luns : List Lun) (l : ℕ) (d : Lun) (since : ℕ) → slice_get (map (state_of groups) luns) l ≡ Some (Free since) → (get_or luns l d).time ≡ since
free_by groups luns l d since at = state_free groups (get_or luns l d) since (map_found (state_of groups) luns l d _ at)

-- a group that has members stands in the table
pub in_table : (groups : List (List Want)) (place : ℕ) → 1 ≤ length (slice_index_or groups place []) → place < length groups
in_table groups place h = elim (cases_lt place (length groups)) [
  | inl a ↦ a
  | inr a ↦ (let e = get_or_past groups place [] a in let k : 1 ≤ 0 = rw e at h in absurd (omega arith))
]

pub read_group : (groups : List (List Want)) (place : ℕ) (x : List Want) → place < length groups → x ≡ get_or groups place x → slice_index_or groups place [] ≡ x
read_group groups place x h e = get_or_default groups place [] x h ∙ sym e

next_after : (timing : Timing) (rules : Rules) (bus_free : ℕ) (groups : List (List Want)) (luns : List Lun) (wants : List Want) (l : ℕ) (g : List Want) (n r e : ℕ) (y : Lun) → slice_get (map (state_of groups) luns) l ≡ Some (Running g n r) → e ≡ max bus_free r + phase_length (group_spans timing g) (length g) n → state_of groups y ≡ lun_after timing g n e → problem_of timing rules e (map (state_of groups) (slice_set luns l y)) wants ≡ after (problem_of timing rules bus_free (map (state_of groups) luns) wants) (Next l)
next_after timing rules bus_free groups luns wants l g n r e y at q s = rw (at, map_set (state_of groups) luns l y, s, q) refl

start_after : (timing : Timing) (rules : Rules) (bus_free : ℕ) (groups : List (List Want)) (luns : List Lun) (wants left : List Want) (l : ℕ) (g : List Want) (since e : ℕ) (y : Lun) → slice_get (map (state_of groups) luns) (lun_of g) ≡ Some (Free since) → lun_of g ≡ l → e ≡ max bus_free since + phase_length (group_spans timing g) (length g) 0 → state_of groups y ≡ lun_after timing g 0 e → left ≡ without g wants → problem_of timing rules e (map (state_of groups) (slice_set luns l y)) left ≡ after (problem_of timing rules bus_free (map (state_of groups) luns) wants) (Start g)
start_after timing rules bus_free groups luns wants left l g since e y at i q s w = rw (w, ← i, at, map_set (state_of groups) luns (lun_of g) y, s, q) refl

-- a position is kept while it changes by moves
moved_kept : (x y : Position) (m : Move) → IsKept x → IsMove x.problem m → y.problem ≡ after x.problem m → y.all ≡ x.all → IsKept y
moved_kept x y m k im e a = record {
  limits = subst InLimits (sym e) (after_limits x.problem m k.limits im);
  few = rw a k.few;
  wants = rw a k.wants;
  ids = rw a k.ids;
}

-- what the code finds at the next phase of a LUN
pub record FindsNext (timing : Timing) (rules : Rules) (bus_free : ℕ) (groups : List (List Want)) (luns : List Lun) (l : ℕ) (x : Lun) : Type 0 where
  pub place : x.place < length groups
  pub start : max bus_free x.time < 2 ^ 62
  pub next : x.next < 2 * length (slice_index_or groups x.place [])
  pub lun : l < length luns

-- .. and at the first phase of a group
pub record FindsStart (bus_free : ℕ) (luns : List Lun) (l : ℕ) (x : Lun) : Type 0 where
  pub start : max bus_free x.time < 2 ^ 62
  pub lun : l < length luns

-- an undo gives a position back from the one that its move left
pub record IsUndo (x new : Position) (undo : Undo) : Type 0 where
  pub undone : restored new undo ≡ x
  pub within : undo.lun < length new.problem.luns
  pub limits : InLimits (restored new undo).problem

module _ (timing : Timing) (rules : Rules) (bus_free : ℕ) (luns : List Lun) (all : List Want) (marks : List Bool) (groups : List (List Want)) (k : IsKept (position_of timing rules bus_free luns all marks groups)) where
  abbrev pub now : Position
  now = position_of timing rules bus_free luns all marks groups

  abbrev placed_at : Problem → Position
  placed_at p = record { problem = p; all = all; groups = groups }

  small_start : (x : Lun) (l : ℕ) (s : LunState) (t : ℕ) → slice_get now.problem.luns l ≡ Some s → free_from (Some s) ≡ t → x.time ≡ t → max bus_free x.time < 2 ^ 62
  small_start x l s t at f e = let a = bus_in_limits now.problem k.limits in let b = lun_in_limits now.problem l s k.limits at in omega arith

  kept_lun : (l : ℕ) (s : LunState) → slice_get now.problem.luns l ≡ Some s → l < length luns
  kept_lun l s at = let a = within_get now.problem.luns l s at in let b = length-map luns (state_of groups) in omega arith

  pub finds_next : (l : ℕ) (d : Lun) → IsMove now.problem (Next l) → FindsNext timing rules bus_free groups luns l (get_or luns l d)
  finds_next l d (g, n, r, at) =
      let q = runs_by groups luns l d g n r at in
      let i = k.limits.problem.running l g n r at in
      let e : length (slice_index_or groups (get_or luns l d).place []) ≡ length g = ap length q.group in
      record {
        place = in_table groups (get_or luns l d).place (omega arith);
        start = small_start (get_or luns l d) l _ r at refl q.time;
        next = omega arith;
        lun = kept_lun l _ at;
      }

  pub went_on : (l : ℕ) (d : Lun) (group : List Want) (e : ℕ) (y : Lun) → IsMove now.problem (Next l) → slice_index_or groups (get_or luns l d).place [] ≡ group → e ≡ max bus_free (get_or luns l d).time + phase_length (group_spans timing group) (length group) (get_or luns l d).next → state_of groups y ≡ lun_after timing group (get_or luns l d).next e → position_of timing rules e (slice_set luns l y) all marks groups ≡ moved now (KeptNext l)
  went_on l d group e y (g, n, r, at) i q s =
      let w = runs_by groups luns l d g n r at in
      let same : group ≡ g = sym i ∙ w.group in
      let q' = rw (same, w.next, w.time) at q in
      let s' = rw (same, w.next) at s in
      ap placed_at (next_after timing rules bus_free groups luns (waiting_of marks all) l g n r e y at q' s')

  pub next_kept : (l : ℕ) (y : Position) → IsMove now.problem (Next l) → y ≡ moved now (KeptNext l) → IsKept y
  next_kept l y im e = moved_kept now y (Next l) k im (ap (λ (z : Position). z.problem) e) (ap (λ (z : Position). z.all) e)

  pub finds_start : (l : ℕ) (d : Lun) (g : List Want) → IsMove now.problem (Start g) → lun_of g ≡ l → FindsStart bus_free luns l (get_or luns l d)
  finds_start l d g (since, at, st) i =
      let at' : slice_get now.problem.luns l ≡ Some (Free since) = subst (λ z. slice_get now.problem.luns z ≡ Some (Free since)) i at in
      record { start = small_start (get_or luns l d) l _ since at' refl (free_by groups luns l d since at'); lun = kept_lun l _ at' }

  pub started : (l place : ℕ) (d : Lun) (group : List Want) (e : ℕ) (y : Lun) (left : List Bool) → IsMove now.problem (Start (slice_index_or groups place [])) → lun_of (slice_index_or groups place []) ≡ l → slice_index_or groups place [] ≡ group → e ≡ max bus_free (get_or luns l d).time + phase_length (group_spans timing group) (length group) 0 → state_of groups y ≡ lun_after timing group 0 e → waiting_of left all ≡ without group (waiting_of marks all) → position_of timing rules e (slice_set luns l y) all left groups ≡ moved now (KeptStart l place)
  started l place d group e y left (since, at, st) i same q s w =
      let at' : slice_get now.problem.luns l ≡ Some (Free since) = subst (λ z. slice_get now.problem.luns z ≡ Some (Free since)) i at in
      let q' = rw (← same, free_by groups luns l d since at') at q in
      let s' = rw (← same) at s in
      let w' = rw (← same) at w in
      ap placed_at (start_after timing rules bus_free groups luns (waiting_of marks all) (waiting_of left all) l (slice_index_or groups place []) since e y at i q' s' w')

  pub start_kept : (l place : ℕ) (y : Position) → IsMove now.problem (Start (slice_index_or groups place [])) → y ≡ moved now (KeptStart l place) → IsKept y
  start_kept l place y im e = moved_kept now y (Start (slice_index_or groups place [])) k im (ap (λ (z : Position). z.problem) e) (ap (λ (z : Position). z.all) e)

  -- what a move changed, put back, is what there was
  undone : (m : KeptMove) (d : Lun) → IsMove now.problem (move_of groups m) → move_lun (move_of groups m) ≡ lun_named m → restored (moved now m) (record { lun = lun_named m; state = get_or luns (lun_named m) d; bus_free = bus_free; waiting = marks }) ≡ now
  undone (KeptNext l) d (g, n, r, at) i =
      let e = map_found (state_of groups) luns l d _ at in
      rw at (rw e (ap (λ (z : List LunState). placed_at (problem_of timing rules bus_free z (waiting_of marks all))) (set_back now.problem.luns l _ _ at)))
  undone (KeptStart l place) d (since, at, st) i =
      let at' : slice_get now.problem.luns l ≡ Some (Free since) = subst (λ z. slice_get now.problem.luns z ≡ Some (Free since)) i at in
      let e = map_found (state_of groups) luns l d _ at' in
      rw (e, i) (ap (λ (z : List LunState). placed_at (problem_of timing rules bus_free z (waiting_of marks all))) (set_back now.problem.luns l _ _ at'))

  lun_within : (m : KeptMove) → IsMove now.problem (move_of groups m) → move_lun (move_of groups m) ≡ lun_named m → lun_named m < length (moved now m).problem.luns
  lun_within (KeptNext l) (g, n, r, at) i = let w = within_get now.problem.luns l _ at in rw at (rw length_set w)
  lun_within (KeptStart l place) (since, at, st) i = let w = within_get now.problem.luns (lun_of (slice_index_or groups place [])) _ at in rw length_set (rw i at w)

  -- a move of the position that is kept so, made
  pub made : (x new : Position) (m n : KeptMove) (read : List Lun) (l : ℕ) (d : Lun) → now ≡ x → IsMove x.problem (move_of x.groups m) → move_lun (move_of x.groups m) ≡ lun_named m → m ≡ n → new ≡ moved x n → l ≡ lun_named m → read ≡ luns → IsUndo x new (record { lun = l; state = get_or read l d; bus_free = bus_free; waiting = marks })
  made x new m n read l d v step lun is e q r =
      let im = subst (λ (z : Position). IsMove z.problem (move_of z.groups m)) (sym v) step in
      let i = subst (λ (z : Position). move_lun (move_of z.groups m) ≡ lun_named m) (sym v) lun in
      let e' : new ≡ moved now m = e ∙ (ap (λ (z : Position). moved z n) (sym v) ∙ ap (λ (z : KeptMove). moved now z) (sym is)) in
      let u = undone m d im i in
      rw (e', q, r) (record { undone = u ∙ v; within = lun_within m im i; limits = subst (λ (z : Position). InLimits z.problem) (sym u) k.limits })

  pub lun_here : (m : KeptMove) (l : ℕ) → IsMove now.problem (move_of groups m) → move_lun (move_of groups m) ≡ lun_named m → l ≡ lun_named m → l < length luns
  lun_here (KeptNext lun) l (g, n, r, at) i q = rw q (kept_lun lun _ at)
  lun_here (KeptStart lun place) l (since, at, st) i q = rw (q, ← i) (kept_lun _ _ at)
