-- The schedule of a run, built from its last step on.
use Rattle.std.proofs.Common.{◌≡◌, ℕ, zero, suc, ◌+◌, ◌*◌, ◌≤◌, ◌<◌, inl, inr, List, [], ◌∷◌, ◌++◌, length, map, take, drop, get_or, reverse, replicate, Some, refl, sym, ap, ◌∙◌, subst, arith, append_assoc, get_or-set_same, ◌^◌}
use Rattle.std.specs.Prelude.{slice_get, slice_set, slice_index_or}
use Rattle.std.proofs.lemmas.Bool.{cases_lt}
use Rattle.std.proofs.lemmas.List.{map-append, reverse-append, take_more, take_all, take-append-drop, drop_more, set-set}
use Rattle.std.proofs.lemmas.Option.{get_or_from_slice_get}
use Rattle.onfi_timing.specs.Phases.{phase_length}
use Rattle.onfi_request.specs.declared.want.Want.{Want}
use Rattle.onfi_group.specs.Group.{group_spans, lun_of}
use Rattle.onfi_problem.specs.Problem.{Problem, IsProblem}
use Rattle.onfi_problem.specs.Left.{InLimits}
use Rattle.onfi_problem.specs.Moves.{Move, Next, Start, IsMove, earliest, move_lun, placed, lun_after}
use Rattle.onfi_problem.specs.declared.lun_state.LunState.{LunState}
use Rattle.onfi_problem.proofs.Kept.{kept, placed_luns, lun_there}
use Rattle.onfi_problem.proofs.Places.{get_within, get_set_same, within_get}
use Rattle.onfi_problem.proofs.LunAfter.{lun_after_running, lun_after_free}
use Rattle.onfi_problem.specs.declared.moves.Move.TheVariants.{Next as KeptNext, Start as KeptStart}
use Rattle.onfi_problem.specs.Position.{Position, move_of}
use Rattle.onfi_schedule.specs.Schedule.{Placed as PlacedGroup, Schedule, IsSchedule, starts_at, with_first}
use Rattle.onfi_schedule.specs.Runs.{Step, Run, empty, schedule_of}
use Rattle.onfi_schedule.proofs.RunLegal.{run_legal}
use Rattle.onfi_schedule.proofs.LegalIs.{few_groups_of}
use Rattle.onfi_schedule.proofs.Exchange.{bus_after}
use Rattle.onfi_planner.specs.declared.search.Begun.{Begun}
use Rattle.onfi_planner.specs.Planning.{run_of, taken}

-- these steps in front of a schedule
abbrev pub stacked : Schedule → List Step → Schedule
stacked s [] = s
stacked s (x ∷ steps) = with_first x.move x.start (stacked s steps)

none_same : (luns : List LunState) (i : ℕ) (a : LunState) → map {B = List ℕ} (λ _. []) (slice_set luns i a) ≡ map {B = List ℕ} (λ _. []) luns
none_same [] i a = refl
none_same (x ∷ luns) zero a = refl
none_same (x ∷ luns) (suc i) a = ap (λ z. [] ∷ z) (none_same luns i a)

empty_same : (p : Problem) (m : Move) (t : ℕ) → IsMove p m → empty (placed p m t) ≡ empty p
empty_same p (Next l) t (g, n, r, at) = rw at (ap (λ (z : List (List ℕ)). record { rest = z; groups = [] }) (none_same p.luns l _))
empty_same p (Start ms) t (since, at, st) = ap (λ (z : List (List ℕ)). record { rest = z; groups = [] }) (none_same p.luns (lun_of ms) _)

pub schedule_stacked : (steps : List Step) (p : Problem) (f : ℕ) → Run p steps f → schedule_of p steps ≡ stacked (empty p) steps
schedule_stacked [] p f run = refl
schedule_stacked (s ∷ steps) p f (mv, on_time, run) =
    ap (with_first s.move s.start) (schedule_stacked steps (placed p s.move s.start) f run ∙ ap (λ e. stacked e steps) (empty_same p s.move s.start mv))

run_from_bus : (steps : List Step) (p : Problem) (f : ℕ) → Run p steps f → p.bus_free ≤ f
run_from_bus [] p f (d, e) = omega arith
run_from_bus (s ∷ steps) p f (mv, on_time, run) =
    let a = run_from_bus steps (placed p s.move s.start) f run in
    let b = bus_after p s.move s.start mv in
    omega arith

-- what is known of a step and of the starts after it
pub record Room (s : Step) (later : Schedule) (f : ℕ) : Type 0 where
  pub room : length (starts_at later (move_lun s.move)) ≤ 7
  pub ends : s.start ≤ f
  pub lun : move_lun s.move < length later.rest
  pub some : (g : List Want) → s.move ≡ Start g → 1 ≤ length g

some_of : (p : Problem) (m : Move) (g : List Want) → IsMove p m → m ≡ Start g → 1 ≤ length g
some_of p (Next l) g im e = cc
some_of p (Start ms) g (since, at, st) e = let q : ms ≡ g = cc in subst (λ z. 1 ≤ length z) q st.group.some

-- the LUN of a move once its phase has ended
room_of : (q : Problem) (s : Schedule) (l k n b : ℕ) (g : List Want) → IsSchedule q s → length g ≤ 4 → slice_get q.luns l ≡ Some (lun_after q.timing g n b) → length (starts_at s l) ≤ 7
room_of q s l k n b g sh few at =
    let there = within_get q.luns l _ at in
    let long = sh.luns in
    let starts = get_within s.rest l (omega arith) in
    let e : starts_at s l ≡ starts.0 = get_or_from_slice_get s.rest l starts.0 [] starts.1 in
    elim (cases_lt (n + 1) (2 * length g)) [
      | inl h ↦ (
          let r = lun_after_running q.timing g n b h in
          let w = sh.rest l g (n + 1) _ starts.0 (at ∙ ap Some r) starts.1 in
          rw e (omega arith))
      | inr h ↦ (
          let r = lun_after_free q.timing g n b h in
          let w = sh.no_rest l b starts.0 (at ∙ ap Some r) starts.1 in
          rw (e, w) (omega arith))
    ]

room_here : (p : Problem) (m : Move) (t : ℕ) (s : Schedule) → IsProblem p → IsMove p m → IsSchedule (placed p m t) s → length (starts_at s (move_lun m)) ≤ 7
room_here p (Next l) t s ip (g, n, r, at) sh =
    let few = (ip.running l g n r at).group.few in
    let b = t + phase_length (group_spans p.timing g) (length g) n in
    room_of (placed p (Next l) t) s l 0 n b g sh few (rw at (get_set_same p.luns l _ (lun_after p.timing g n b) at))
room_here p (Start ms) t s ip (since, at, st) sh =
    let b = t + phase_length (group_spans p.timing ms) (length ms) 0 in
    room_of (placed p (Start ms) t) s (lun_of ms) 0 0 b ms sh st.group.few (get_set_same p.luns (lun_of ms) _ (lun_after p.timing ms 0 b) at)

room_front : (steps : List Step) (p : Problem) (s : Step) (f : ℕ) → IsProblem p → IsMove p s.move → earliest p s.move ≤ s.start → Run (placed p s.move s.start) steps f → Room s (stacked (empty p) steps) f
room_front steps p s f ip mv on_time run =
    let q = placed p s.move s.start in
    let l = run_legal steps q f (kept p s.move s.start ip mv) run in
    let e : schedule_of q steps ≡ stacked (empty p) steps = schedule_stacked steps q f run ∙ ap (λ z. stacked z steps) (empty_same p s.move s.start mv) in
    let bus = run_from_bus steps q f run in
    let began = bus_after p s.move s.start mv in
    let there = lun_there p s.move mv in
    let same = placed_luns p s.move s.start mv in
    let sh = l.0.shape.luns in
    subst (λ z. Room s z f) e (record {
      room = room_here p s.move s.start (schedule_of q steps) ip mv l.0.shape;
      ends = omega arith;
      lun = omega arith;
      some = λ g. some_of p s.move g mv;
    })

pub room_at : (front : List Step) (s : Step) (back : List Step) (p : Problem) (f : ℕ) → IsProblem p → Run p (front ++ s ∷ back) f → Room s (stacked (empty p) back) f
room_at [] s back p f ip (mv, on_time, run) = room_front back p s f ip mv on_time run
room_at (x ∷ front) s back p f ip (mv, on_time, run) =
    subst (λ e. Room s (stacked e back) f) (empty_same p x.move x.start mv) (room_at front s back (placed p x.move x.start) f (kept p x.move x.start ip mv) run)

-- steps are kept last first
pub run_split : (groups : List (List Want)) (xs : List Begun) (b : Begun) (ys : List Begun) → run_of groups (xs ++ b ∷ ys) ≡ run_of groups ys ++ taken groups b ∷ run_of groups xs
run_split groups xs b ys =
    let m = map (taken groups) xs in
    let n = map (taken groups) ys in
    ap reverse (map-append (taken groups) xs (b ∷ ys)) ∙ (reverse-append m (taken groups b ∷ n) ∙ (ap (λ z. z ++ reverse m) (reverse-append (taken groups b ∷ []) n) ∙ append_assoc (reverse n) (taken groups b ∷ []) (reverse m)))

run_split_at : (groups : List (List Want)) (steps : List Begun) (i : ℕ) (d : Begun) → i < length steps → run_of groups steps ≡ run_of groups (drop (i + 1) steps) ++ taken groups (get_or steps i d) ∷ run_of groups (take i steps)
run_split_at groups steps i d h =
    let back = drop (i + 1) steps in
    let whole : steps ≡ take i steps ++ get_or steps i d ∷ back = sym (take-append-drop i steps) ∙ ap (λ z. take i steps ++ z) (drop_more steps i d h) in
    ap (run_of groups) whole ∙ run_split groups (take i steps) (get_or steps i d) back

pub room_of_step : (p : Problem) (groups : List (List Want)) (steps : List Begun) (i : ℕ) (d : Begun) (f : ℕ) → IsProblem p → Run p (run_of groups steps) f → i < length steps → Room (taken groups (get_or steps i d)) (stacked (empty p) (run_of groups (take i steps))) f
room_of_step p groups steps i d f ip run h =
    room_at (run_of groups (drop (i + 1) steps)) (taken groups (get_or steps i d)) (run_of groups (take i steps)) p f ip (subst (λ z. Run p z f) (run_split_at groups steps i d h) run)

-- steps in front leave no group out
first_grows : (m : Move) (t : ℕ) (s : Schedule) → length s.groups ≤ length (with_first m t s).groups
first_grows (Next l) t s = omega arith
first_grows (Start g) t s = omega arith

groups_grow : (front : List Step) (s : Schedule) (back : List Step) → length (stacked s back).groups ≤ length (stacked s (front ++ back)).groups
groups_grow [] s back = omega arith
groups_grow (x ∷ front) s back = omega (arith, groups_grow front s back, first_grows x.move x.start (stacked s (front ++ back)))

one_more : (m : Move) (g : List Want) (t : ℕ) (s : Schedule) → m ≡ Start g → length (with_first m t s).groups ≡ length s.groups + 1
one_more m g t s e = rw e (omega arith)

few_stacked : (p : Problem) (steps : List Step) (f : ℕ) → InLimits p → Run p steps f → length (stacked (empty p) steps).groups ≤ 8
few_stacked p steps f limits run =
    subst (λ (s : Schedule). length s.groups ≤ 8) (schedule_stacked steps p f run) (few_groups_of p (schedule_of p steps) limits (run_legal steps p f limits.problem run).0)

pub one_taken : (groups : List (List Want)) (steps : List Begun) (i : ℕ) (d : Begun) → i < length steps → run_of groups (take (i + 1) steps) ≡ taken groups (get_or steps i d) ∷ run_of groups (take i steps)
one_taken groups steps i d h = ap (run_of groups) (take_more steps i d h) ∙ run_split groups (take i steps) (get_or steps i d) []

none_each : (luns : List LunState) → replicate (length luns) [] ≡ map {B = List ℕ} (λ _. []) luns
none_each [] = refl
none_each (x ∷ luns) = ap (λ z. [] ∷ z) (none_each luns)

pub none_placed : (p : Problem) (n : ℕ) (rest : List (List ℕ)) → n ≡ length p.luns → rest ≡ replicate n [] → record { rest = rest; groups = [] } ≡ empty p
none_placed p n rest e h = ap (λ (z : List (List ℕ)). record { rest = z; groups = [] }) (h ∙ (ap (λ k. replicate k []) e ∙ none_each p.luns))

-- a start fits in front of those of a LUN
pub record Fits (rest : List (List ℕ)) (lun start : ℕ) : Type 0 where
  pub there : lun < length rest
  pub room : length (slice_index_or rest lun []) < 8
  pub small : start < 2 ^ 63

module _ (x : Position) (steps : List Begun) (i : ℕ) (d : Begun) (problem : IsProblem x.problem) (run : (f : ℕ) × (f < 2 ^ 63) × Run x.problem (run_of x.groups steps) f) (within : i < length steps) where
  room : Room (taken x.groups (get_or steps i d)) (stacked (empty x.problem) (run_of x.groups (take i steps))) run.0
  room = room_of_step x.problem x.groups steps i d run.0 problem run.2 within

  fits : (lun : ℕ) (s : Schedule) → move_lun (move_of x.groups (get_or steps i d).step) ≡ lun → s ≡ stacked (empty x.problem) (run_of x.groups (take i steps)) → Fits s.rest lun (get_or steps i d).start
  fits lun s e q =
      let r = room in
      let a = r.room in
      let b = r.ends in
      let k = r.lun in
      let h = run.1 in
      subst (λ (z : Schedule). Fits z.rest lun (get_or steps i d).start) (sym q) (subst (λ l. Fits (stacked (empty x.problem) (run_of x.groups (take i steps))).rest l (get_or steps i d).start) e (record { there = k; room = omega arith; small = omega arith }))

  pub next_fits : (lun : ℕ) (s : Schedule) → (get_or steps i d).step ≡ KeptNext lun → s ≡ stacked (empty x.problem) (run_of x.groups (take i steps)) → Fits s.rest lun (get_or steps i d).start
  next_fits lun s e q = fits lun s (ap (λ m. move_lun (move_of x.groups m)) e) q

  pub start_fits : (l place lun : ℕ) (s : Schedule) → (get_or steps i d).step ≡ KeptStart l place → lun ≡ lun_of (slice_index_or x.groups place []) → s ≡ stacked (empty x.problem) (run_of x.groups (take i steps)) → Fits s.rest lun (get_or steps i d).start
  start_fits l place lun s e k q = fits lun s (ap (λ m. move_lun (move_of x.groups m)) e ∙ sym k) q

  pub start_some : (l place : ℕ) → (get_or steps i d).step ≡ KeptStart l place → 1 ≤ length (slice_index_or x.groups place [])
  start_some l place e = room.some (slice_index_or x.groups place []) (ap (move_of x.groups) e)

  -- .. and there is room for one group more
  pub start_room : InLimits x.problem → (l place : ℕ) (s : Schedule) → (get_or steps i d).step ≡ KeptStart l place → s ≡ stacked (empty x.problem) (run_of x.groups (take i steps)) → length s.groups < 8
  start_room limits l place s e q =
      let b = get_or steps i d in
      let back = run_of x.groups (take i steps) in
      let few = few_stacked x.problem (run_of x.groups steps) run.0 limits run.2 in
      let whole = ap (λ (z : List Step). length (stacked (empty x.problem) z).groups) (run_split_at x.groups steps i d within) in
      let grown = groups_grow (run_of x.groups (drop (i + 1) steps)) (empty x.problem) (taken x.groups b ∷ back) in
      let one = one_more (move_of x.groups b.step) (slice_index_or x.groups place []) b.start (stacked (empty x.problem) back) (ap (move_of x.groups) e) in
      subst (λ (z : Schedule). length z.groups < 8) (sym q) (omega (arith, few, whole, grown, one))

more : (groups : List (List Want)) (steps : List Begun) (i : ℕ) (d : Begun) (e s : Schedule) (m : Move) → i < length steps → s ≡ stacked e (run_of groups (take i steps)) → move_of groups (get_or steps i d).step ≡ m → with_first m (get_or steps i d).start s ≡ stacked e (run_of groups (take (i + 1) steps))
more groups steps i d e s m h q k =
    let b = get_or steps i d in
    let w : with_first m b.start s ≡ with_first (move_of groups b.step) b.start (stacked e (run_of groups (take i steps))) = rw (k, ← q) refl in
    w ∙ ap (stacked e) (sym (one_taken groups steps i d h))

pub next_stacked : (groups : List (List Want)) (steps : List Begun) (i : ℕ) (d : Begun) (e s : Schedule) (lun : ℕ) (rest : List (List ℕ)) → i < length steps → s ≡ stacked e (run_of groups (take i steps)) → (get_or steps i d).step ≡ KeptNext lun → rest ≡ slice_set s.rest lun ((get_or steps i d).start ∷ slice_index_or s.rest lun []) → record { rest = rest; groups = s.groups } ≡ stacked e (run_of groups (take (i + 1) steps))
next_stacked groups steps i d e s lun rest h q k r =
    ap (λ (z : List (List ℕ)). record { rest = z; groups = s.groups }) r ∙ more groups steps i d e s (Next lun) h q (ap (move_of groups) k)

pub start_stacked : (groups : List (List Want)) (steps : List Begun) (i : ℕ) (d : Begun) (e s : Schedule) (l place lun : ℕ) (put rest : List (List ℕ)) (starts : List ℕ) (placed' : PlacedGroup) (all : List PlacedGroup) → i < length steps → s ≡ stacked e (run_of groups (take i steps)) → (get_or steps i d).step ≡ KeptStart l place → lun ≡ lun_of (slice_index_or groups place []) → lun < length s.rest → put ≡ slice_set s.rest lun ((get_or steps i d).start ∷ slice_index_or s.rest lun []) → rest ≡ slice_set put lun [] → starts ≡ slice_index_or put lun [] → placed'.members ≡ slice_index_or groups place [] → placed'.starts ≡ starts → all ≡ placed' ∷ s.groups → record { rest = rest; groups = all } ≡ stacked e (run_of groups (take (i + 1) steps))
start_stacked groups steps i d e s l place lun put rest starts placed' all h q k ln there p r t ms ts a =
    let b = get_or steps i d in
    let g = slice_index_or groups place [] in
    let x = b.start ∷ slice_index_or s.rest lun [] in
    let rest' : rest ≡ slice_set s.rest lun [] = r ∙ (ap (λ z. slice_set z lun []) p ∙ set-set s.rest lun x []) in
    let starts' : placed'.starts ≡ x = ts ∙ (t ∙ (ap (λ z. slice_index_or z lun []) p ∙ get_or-set_same s.rest lun x [] there)) in
    let group : placed' ≡ record { members = g; starts = x } = rw (← ms, ← starts') refl in
    let whole : record { rest = rest; groups = all } ≡ with_first (Start g) b.start s = rw (rest', a, group, ← ln) refl in
    whole ∙ more groups steps i d e s (Start g) h q (ap (move_of groups) k)

pub stacked_all : (p : Problem) (groups : List (List Want)) (steps : List Begun) (i f : ℕ) (s s' : Schedule) → Run p (run_of groups steps) f → length steps ≤ i → s ≡ stacked (empty p) (run_of groups (take i steps)) → s'.rest ≡ s.rest → s'.groups ≡ s.groups → s' ≡ schedule_of p (run_of groups steps)
stacked_all p groups steps i f s s' run h q r g =
    let same : s' ≡ s = rw (← r, ← g) refl in
    let all : s ≡ stacked (empty p) (run_of groups steps) = q ∙ ap (λ z. stacked (empty p) (run_of groups z)) (take_all i steps h) in
    same ∙ (all ∙ sym (schedule_stacked (run_of groups steps) p f run))
