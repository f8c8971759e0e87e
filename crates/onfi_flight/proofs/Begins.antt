-- The turn of least start is a phase that comes next, and may run where what is left is legal.
use Rattle.std.proofs.Common.{◌≡◌, ℕ, zero, suc, ◌+◌, ◌*◌, ◌-◌, ◌<◌, ◌≤◌, ◌⊎◌, ◌↔◌, ◌^◌, inl, inr, Bool, true, false, List, [], ◌∷◌, ◌++◌, length, take, drop, Some, None, Option, refl, sym, ap, ◌∙◌, subst, arith}
use Rattle.std.specs.Prelude.{◌==◌, max, nat_lt, not, if◌then◌else◌, is_some, remove, IsTrue, MatchOption, slice_get, slice_set, slice_index_or}
use Rattle.std.specs.List.{AllByRecursion as All}
use Rattle.std.proofs.lemmas.Bool.Decides.{nat_tests}
use Rattle.std.proofs.lemmas.Bool.{lt-ltb, le-ltb, cases_lt}
use Rattle.onfi_timing.specs.Phases.{phase_length}
use Rattle.onfi_request.specs.declared.want.Want.{Want}
use Rattle.onfi_group.specs.Group.{IsStartable, group_spans, lun_of}
use Rattle.onfi_problem.specs.declared.lun_state.LunState.{LunState}
use Rattle.onfi_problem.specs.declared.lun_state.LunState.TheVariants.{Free, Running}
use Rattle.onfi_problem.specs.Problem.{Problem}
use Rattle.onfi_problem.specs.Moves.{Move, Next, Start, IsDone, IsMove, earliest, lun_after, move_lun, next_ran, placed}
use Rattle.onfi_problem.proofs.Kept.{lun_there}
use Rattle.onfi_problem.proofs.Lists.{map_get}
use Rattle.onfi_problem.proofs.Places.{get_within, within_get}
use Rattle.onfi_schedule.specs.Schedule.{Placed, Schedule, Legal, phases}
use Rattle.onfi_schedule.specs.Laws.{Begins, ComesNext}
use Rattle.onfi_schedule.proofs.Following.{first_move_law, next_law, done_law}
use Rattle.onfi_schedule.proofs.Exchange.{not_done}
use Rattle.onfi_flight.specs.declared.due.Due.{Due}
use Rattle.onfi_flight.specs.declared.flight.Next.{Next as NextIs}
use Rattle.onfi_flight.specs.declared.flight.Next.TheVariants as next
use Rattle.onfi_flight.specs.declared.turn.Start.{Start as AStart}
use Rattle.onfi_flight.specs.declared.turn.Turn.{Turn}
use Rattle.onfi_flight.specs.declared.turn.Turn.TheVariants as turn
use Rattle.onfi_flight.specs.Turns.{IsTurn, NoneStart, starts_in}
use Rattle.onfi_flight.specs.Flight.{Flight, IsDue, IsFlight, IsFree, IsOver, IsPhase, IsStuck, MayRun, Tells, left_behind, member_of, move_by, move_of, turn_of, wants_behind}
use Rattle.onfi_flight.proofs.Lists.{cut_there, get_map, index_get}
use Rattle.onfi_flight.proofs.Shifted.{phases_start}
use Rattle.onfi_flight.proofs.Turns.{within_groups}

-- what is left after the first of these starts on the LUN
abbrev rest_behind : Schedule → ℕ → List ℕ → Schedule
rest_behind s lun starts = record { rest = slice_set s.rest lun (drop 1 starts); groups = s.groups }

abbrev group_behind : Schedule → List Want → ℕ → List ℕ → Schedule
group_behind s group place starts = record { rest = slice_set s.rest (lun_of group) (drop 1 starts); groups = remove s.groups place }

rest_begins : (s : Schedule) (lun t : ℕ) (ts : List ℕ) → slice_get s.rest lun ≡ Some (t ∷ ts) → Begins s (Next lun) t (rest_behind s lun (slice_index_or s.rest lun []))
rest_begins s lun t ts at = (ts, at, ap (rest_behind s lun) (index_get s.rest lun (t ∷ ts) [] at))

group_begins : (s : Schedule) (g : Placed) (place t : ℕ) (ts : List ℕ) → slice_get s.groups place ≡ Some g → g.starts ≡ t ∷ ts
    → Begins s (Start g.members) t (group_behind s g.members place (slice_index_or (starts_in s.groups) place []))
group_begins s g place t ts there is =
    let at : slice_get (starts_in s.groups) place ≡ Some (t ∷ ts) = map_get (λ (x : Placed). x.starts) s.groups place g there ∙ ap Some is in
    let whole : g ≡ record { members = g.members; starts = t ∷ ts } = ap (λ us. record { members = g.members; starts = us }) is in
    let are : s.groups ≡ take place s.groups ++ record { members = g.members; starts = t ∷ ts } ∷ drop (place + 1) s.groups =
    cut_there s.groups place g there ∙ ap (λ (z : Placed). take place s.groups ++ z ∷ drop (place + 1) s.groups) whole in
    let one : place + 1 ≡ suc place = omega arith in (
      ts,
      take place s.groups,
      drop (place + 1) s.groups,
      are,
      ap (group_behind s g.members place) (index_get (starts_in s.groups) place (t ∷ ts) [] at)
          ∙ ap (λ n. let z : Schedule = record { rest = slice_set s.rest (lun_of g.members) ts; groups = take place s.groups ++ drop n s.groups } in z) (sym one),
    )

module _ (f : Flight) (s : AStart) where
  module _ (is : IsTurn f.left.rest f.left.groups (turn.Next s)) where
    abbrev left : Schedule
    left = rest_behind f.left s.at (slice_index_or f.left.rest s.at [])

    rest_next : Legal f.now f.left → ComesNext f.now f.left (Next s.at) s.time left
    rest_next legal = record {
      begins = rest_begins f.left s.at s.time is.0.there.0 is.0.there.1;
      least = phases_start f.now f.left s.time legal (λ l u us at. is.0.sooner l u us (within_get f.left.rest l (u ∷ us) at) at) is.1;
    }

    -- the next phase of a running group is due where it may run
    pub next_is_due : (group copy : List Want) (phase ready lun : ℕ) → slice_get f.now.luns s.at ≡ Some (Running group phase ready) → max f.now.bus_free ready ≤ s.time → phase < 2 * length group
        → s.time < 2 ^ 63 → copy ≡ group → lun ≡ s.at → IsDue f (record { start = s.time; group = copy; phase = phase; lun = lun; place = None })
    next_is_due group copy phase ready lun there late within time c l = rw (c, l) (record {
      turn = is;
      begins = rest_begins f.left s.at s.time is.0.there.0 is.0.there.1;
      phase = (ready, there);
      lun = refl;
      there = is.0.within;
      within = within;
      is_move = (group, phase, ready, there);
      on_time = rw there late;
      time = time;
      next = rest_next;
    })

    next_may : IsFlight f → IsMove f.now (Next s.at)
    next_may flight = (first_move_law f.now f.left (Next s.at) s.time left flight.problem flight.legal (rest_next flight.legal)).is_move

    -- .. and it may where what is left is legal
    next_may_run : IsFlight f → MayRun f (turn.Next s)
    next_may_run flight =
        let first = first_move_law f.now f.left (Next s.at) s.time left flight.problem flight.legal (rest_next flight.legal) in
        let (group, phase, ready, there) = first.is_move in
        (group, phase, ready, there, rw there at first.on_time, (flight.problem.running s.at group phase ready there).unfinished)

    -- .. else what is left can't go on: nothing runs there,
    pub nothing_runs : ((group : List Want) (phase ready : ℕ) → slice_get f.now.luns s.at ≡ Some (Running group phase ready) → ⊥) → IsStuck f
    nothing_runs none = inr (turn.Next s, is, λ may. let (group, phase, ready, there, _, _) = may in none group phase ready there)

    -- .. or bus or LUN are taken, or the group has no phase left
    pub next_is_stuck : (group : List Want) (phase ready : ℕ) → slice_get f.now.luns s.at ≡ Some (Running group phase ready) → (s.time < max f.now.bus_free ready) ⊎ (2 * length group ≤ phase) → IsStuck f
    next_is_stuck group phase ready there why = inr (
      turn.Next s,
      is,
      λ may. (
          let (g, n, r, at, free, left) = may in
          let e : Some (Running group phase ready) ≡ Some (Running g n r) = sym there ∙ at in
          let same_ready : ready ≡ r = cc in
          let same_phase : phase ≡ n = cc in
          let same_group : group ≡ g = cc in
          let same = ap (λ (x : List Want). length x) same_group in
          let top = ap (max f.now.bus_free) same_ready in
          elim why [ inl late ↦ omega (arith, late, free, top) | inr over ↦ omega (arith, over, left, same, same_phase) ]),
    )

  module _ (is : IsTurn f.left.rest f.left.groups (turn.First s)) (g : Placed) (there : slice_get f.left.groups s.at ≡ Some g) where
    abbrev left' : Schedule
    left' = group_behind f.left g.members s.at (slice_index_or (starts_in f.left.groups) s.at [])

    begun : g.starts ≡ s.time ∷ is.0.there.0
    begun = let e : Some g.starts ≡ Some (s.time ∷ is.0.there.0) = sym (map_get (λ (x : Placed). x.starts) f.left.groups s.at g there) ∙ is.0.there.1 in cc

    sooner : (t u : ℕ) → t + 1 ≤ u → t ≤ u
    sooner t u h = omega arith

    group_next : Legal f.now f.left → ComesNext f.now f.left (Start g.members) s.time left'
    group_next legal = record {
      begins = group_begins f.left g s.at s.time is.0.there.0 there begun;
      least = phases_start f.now f.left s.time legal (λ l u us at. sooner s.time u (is.1 l u us at)) (λ i u us at. is.0.sooner i u us (within_groups f.left.groups i (u ∷ us) at) at);
    }

    -- a group is due where it may start
    pub first_is_due : (copy : List Want) (since lun : ℕ) → slice_get f.now.luns (lun_of g.members) ≡ Some (Free since) → max f.now.bus_free since ≤ s.time → IsStartable f.now.rules f.now.wants g.members
        → lun < length f.left.rest → s.time < 2 ^ 63 → copy ≡ g.members → lun ≡ lun_of g.members → IsDue f (record { start = s.time; group = copy; phase = 0; lun = lun; place = Some s.at })
    first_is_due copy since lun free late startable there' time c l = rw (c, l) (record {
      turn = is;
      begins = group_begins f.left g s.at s.time is.0.there.0 there begun;
      phase = (refl, refl);
      lun = refl;
      there = rw l at there';
      within = let some = startable.group.some in omega (arith, some);
      is_move = (since, free, startable);
      on_time = rw free late;
      time = time;
      next = group_next;
    })

    -- .. and it may where what is left is legal
    first_may : IsFlight f → IsMove f.now (Start g.members) × (earliest f.now (Start g.members) ≤ s.time)
    first_may flight =
        let first = first_move_law f.now f.left (Start g.members) s.time left' flight.problem flight.legal (group_next flight.legal) in
        (first.is_move, first.on_time)

    first_may_run : IsFlight f → MayRun f (turn.First s)
    first_may_run flight =
        let may = first_may flight in
        let (since, free, startable) = may.0 in
        let low = lun_there f.now (Start g.members) may.0 in
        let same = flight.legal.shape.luns in
        (g, since, there, free, rw free at may.1, startable, omega (arith, low, same))

    -- .. else what is left can't go on
    pub first_is_stuck : ((since : ℕ) → slice_get f.now.luns (lun_of g.members) ≡ Some (Free since) → max f.now.bus_free since ≤ s.time → IsStartable f.now.rules f.now.wants g.members
        → lun_of g.members < length f.left.rest → ⊥) → IsStuck f
    first_is_stuck none = inr (
      turn.First s,
      is,
      λ may. (
          let (other, since, at, free, late, startable, low) = may in
          let e : Some g ≡ Some other = sym there ∙ at in
          let same : other ≡ g = cc in
          none since (rw same at free) late (rw same at startable) (rw same at low)),
    )

-- What is left where something, or nothing, is due

begins_none : (s : Schedule) → NoneStart s.rest → NoneStart (starts_in s.groups) → (move : Move) (start : ℕ) (left : Schedule) → Begins s move start left → ⊥
begins_none s rest groups (Next lun) start left (starts, at, is) = let e = rest lun (start ∷ starts) at in cc
begins_none s rest groups (Start group) start left (starts, before, behind, are, is) =
    let g : Placed = record { members = group; starts = start ∷ starts } in
    let there : slice_get s.groups (length before) ≡ Some g = subst (λ gs. slice_get gs (length before) ≡ Some g) (sym are) (get_at_length before g behind) in
    let e = groups (length before) (start ∷ starts) (map_get (λ (x : Placed). x.starts) s.groups (length before) g there) in cc
  where
    get_at_length : {A : Type 0} (xs : List A) (x : A) (ys : List A) → slice_get (xs ++ x ∷ ys) (length xs) ≡ Some x
    get_at_length [] x ys = refl
    get_at_length (y ∷ xs) x ys = get_at_length xs x ys

some_or_none : {A : Type 0} (xs : List A) → (xs ≡ []) ⊎ (xs ≡ [] → ⊥)
some_or_none [] = inl refl
some_or_none (x ∷ xs) = inr (λ e. cc)

-- where nothing starts no phase is left
pub none_is_left : (f : Flight) → IsFlight f → NoneStart f.left.rest → NoneStart (starts_in f.left.groups) → phases f.now f.left ≡ []
none_is_left f flight rest groups =
    elim (some_or_none (phases f.now f.left)) [
      | inl none ↦ none
      | inr some ↦ absurd (
          let n = next_law f.now f.left flight.problem flight.legal (λ over. some ((done_law f.now f.left flight.problem flight.legal).0 over)) in
          begins_none f.left rest groups n.0 n.1 n.2 n.3.begins)
    ]

-- where a list of starts is the least something starts, and a phase is left
turn_starts : (s : Schedule) (t : Turn) → IsTurn s.rest s.groups t → IsOver s → ⊥
turn_starts s (turn.Next first) is over = let (starts, at) = is.0.there in let e = over.0 first.at (first.time ∷ starts) at in cc
turn_starts s (turn.First first) is over = let (starts, at) = is.0.there in let e = over.1 first.at (first.time ∷ starts) at in cc

turn_left : (f : Flight) (t : Turn) → IsFlight f → IsTurn f.left.rest f.left.groups t → phases f.now f.left ≡ [] → ⊥
turn_left f (turn.Next s) flight is none = not_done f.now (Next s.at) ((done_law f.now f.left flight.problem flight.legal).1 none) (next_may f s is flight)
turn_left f (turn.First s) flight is none =
    let (g, there, _) = get_map (λ (x : Placed). x.starts) f.left.groups s.at (s.time ∷ is.0.there.0) is.0.there.1 in
    not_done f.now (Start g.members) ((done_law f.now f.left flight.problem flight.legal).1 none) (first_may f s is g there flight).0

-- so none is the least exactly where no start, and no phase, is left
pub over_exactly : (s : Schedule) (least : Option Turn) (none : Bool) → is_some least ≡ not none → MatchOption least (IsOver s) (IsTurn s.rest s.groups) → IsTrue none ↔ IsOver s
over_exactly s None true e is = (λ _. is, λ _. refl)
over_exactly s None false e is = absurd (let z : false ≡ true = e in cc)
over_exactly s (Some t) true e is = absurd (let z : true ≡ false = e in cc)
over_exactly s (Some t) false e is = (λ z. absurd (let y : false ≡ true = z in cc), λ over. absurd (turn_starts s t is over))

pub over_left : (f : Flight) (least : Option Turn) (none : Bool) → IsFlight f → is_some least ≡ not none → MatchOption least (IsOver f.left) (IsTurn f.left.rest f.left.groups) → IsTrue none ↔ (phases f.now f.left ≡ [])
over_left f None true flight e is = (λ _. none_is_left f flight is.0 is.1, λ _. refl)
over_left f None false flight e is = absurd (let z : false ≡ true = e in cc)
over_left f (Some t) true flight e is = absurd (let z : true ≡ false = e in cc)
over_left f (Some t) false flight e is = (λ z. absurd (let y : false ≡ true = z in cc), λ empty. absurd (turn_left f t flight is empty))

-- .. and nothing is left to do
pub over_is_done : (f : Flight) → IsFlight f → IsOver f.left → IsDone f.now
over_is_done f flight over = (done_law f.now f.left flight.problem flight.legal).1 (none_is_left f flight over.0 over.1)

pub none_there : {A : Type 0} (xs : List A) → (length xs == 0) ≡ true → xs ≡ []
none_there [] h = refl
none_there (x ∷ xs) h = absurd (let e : length (x ∷ xs) ≡ 0 = grind (arith, nat_tests) in omega (arith, e))

pub none_runs : (luns : List LunState) → All IsFree luns → (lun : ℕ) (group : List Want) (next ready : ℕ) → slice_get luns lun ≡ Some (Running group next ready) → ⊥
none_runs [] free lun group next ready at = cc
none_runs (Free since ∷ luns) free zero group next ready at = cc
none_runs (Running g n r ∷ luns) free zero group next ready at = absurd free.0
none_runs (x ∷ luns) free (suc lun) group next ready at = none_runs luns free.1 lun group next ready at

pub all_free : (luns : List LunState) → ((lun : ℕ) (group : List Want) (next ready : ℕ) → slice_get luns lun ≡ Some (Running group next ready) → ⊥) → All IsFree luns
all_free [] none = tt
all_free (Free since ∷ luns) none = (tt, all_free luns (λ lun. none (suc lun)))
all_free (Running g n r ∷ luns) none = absurd (none zero g n r refl)

-- what can't go on isn't legal
may_run : (f : Flight) (t : Turn) → IsFlight f → IsTurn f.left.rest f.left.groups t → MayRun f t
may_run f (turn.Next s) flight is = next_may_run f s is flight
may_run f (turn.First s) flight is =
    let (g, there, _) = get_map (λ (x : Placed). x.starts) f.left.groups s.at (s.time ∷ is.0.there.0) is.0.there.1 in
    first_may_run f s is g there flight

pub stuck_is_illegal : (f : Flight) → IsStuck f → IsFlight f → ⊥
stuck_is_illegal f (inl (over, undone)) flight = undone (over_is_done f flight over)
stuck_is_illegal f (inr (t, is, not)) flight = not (may_run f t flight is)

pub never_stuck : (f : Flight) (is : NextIs) → IsFlight f → Tells f is → is ≡ next.Illegal → ⊥
never_stuck f (next.Due due) flight tells e = cc
never_stuck f next.Done flight tells e = cc
never_stuck f next.Illegal flight tells e = stuck_is_illegal f tells flight

-- so what comes next is done exactly where no phase is left
pub done_exactly : (f : Flight) (is : NextIs) → IsFlight f → Tells f is → (is ≡ next.Done) ↔ (phases f.now f.left ≡ [])
done_exactly f (next.Due due) flight tells = (λ e. absurd (let z : next.Due due ≡ next.Done = e in cc), λ none. absurd (turn_left f (turn_of due) flight tells.turn none))
done_exactly f next.Done flight tells = (λ _. none_is_left f flight tells.0.0 tells.0.1, λ _. refl)
done_exactly f next.Illegal flight tells = absurd (stuck_is_illegal f tells flight)

-- What a phase makes of the problem

abbrev after_run : Flight → Due → ℕ → Flight
after_run f due started = record { now = placed f.now (move_of due) started; left = left_behind f.left due }

placed_by : (p : Problem) (lun : ℕ) (group : List Want) (phase : ℕ) (place : Option ℕ) (started : ℕ) → IsPhase p (move_by lun group place) group phase → move_lun (move_by lun group place) ≡ lun
    → placed p (move_by lun group place) started ≡ (let ended = started + phase_length (group_spans p.timing group) (length group) phase in
    record { timing = p.timing; rules = p.rules; bus_free = ended; luns = slice_set p.luns lun (lun_after p.timing group phase ended); wants = wants_behind place group p.wants })
placed_by p lun group phase None started (ready, at) same = ap (λ o. next_ran p lun o started) at
placed_by p lun group phase (Some place) started (_, first) same = let there = sym same in rw (first, there) refl

pub placed_is : (f : Flight) (due : Due) (started : ℕ) → IsDue f due
    → placed f.now (move_of due) started ≡ (let ended = started + phase_length (group_spans f.now.timing due.group) (length due.group) due.phase in
    record { timing = f.now.timing; rules = f.now.rules; bus_free = ended; luns = slice_set f.now.luns due.lun (lun_after f.now.timing due.group due.phase ended); wants = wants_behind due.place due.group f.now.wants })
placed_is f due started is = placed_by f.now due.lun due.group due.phase due.place started is.phase is.lun

-- the problem then, with what is left
ran_is : (f : Flight) (due : Due) (started ended : ℕ) (luns : List LunState) (wants : List Want) (left : Schedule) → IsDue f due
    → ended ≡ started + phase_length (group_spans f.now.timing due.group) (length due.group) due.phase → luns ≡ slice_set f.now.luns due.lun (lun_after f.now.timing due.group due.phase ended)
    → wants ≡ wants_behind due.place due.group f.now.wants → left ≡ left_behind f.left due
    → (let now : Flight = record { now = record { timing = f.now.timing; rules = f.now.rules; bus_free = ended; luns = luns; wants = wants }; left = left } in now) ≡ after_run f due started
ran_is f due started ended luns wants left is e l w s = rw (s, w, l, e) (ap (λ n. let now : Flight = record { now = n; left = left_behind f.left due } in now) (sym (placed_is f due started is)))

-- .. of a flight as its fields are
pub run_is : (v f : Flight) (due : Due) (started ended : ℕ) (luns : List LunState) (wants : List Want) (left : Schedule) → v ≡ f → IsDue f due
    → ended ≡ started + phase_length (group_spans v.now.timing due.group) (length due.group) due.phase → luns ≡ slice_set v.now.luns due.lun (lun_after v.now.timing due.group due.phase ended)
    → wants ≡ wants_behind due.place due.group v.now.wants → left ≡ left_behind v.left due
    → (let now : Flight = record { now = record { timing = v.now.timing; rules = v.now.rules; bus_free = ended; luns = luns; wants = wants }; left = left } in now) ≡ after_run f due started
run_is v f due started ended luns wants left same is e l w s =
    ran_is v due started ended luns wants left (subst (λ (x : Flight). IsDue x due) (sym same) is) e l w s ∙ ap (λ (x : Flight). after_run x due started) same

-- its LUN is there
pub due_lun : (f : Flight) (due : Due) → IsDue f due → due.lun < length f.now.luns
due_lun f due is = let low = lun_there f.now (move_of due) is.is_move in let same = is.lun in omega (arith, low, same)

-- the member of a phase stands at that place of its group
pub member_at : (group : List Want) (phase number : ℕ) (d : Want) → phase < 2 * length group
    → number ≡ (if nat_lt phase (length group) then phase else phase - length group) → member_of group phase ≡ Some (slice_index_or group number d)
member_at group phase number d within is =
    let low : (if nat_lt phase (length group) then phase else phase - length group) < length group = elim (cases_lt phase (length group)) [
      | inl lt ↦ rw (lt-ltb phase (length group) lt) lt
      | inr ge ↦ rw (le-ltb phase (length group) ge) (omega arith)
    ] in
    let m = get_within group (if nat_lt phase (length group) then phase else phase - length group) low in
    rw is (m.1 ∙ ap Some (sym (index_get group (if nat_lt phase (length group) then phase else phase - length group) m.0 d m.1)))
