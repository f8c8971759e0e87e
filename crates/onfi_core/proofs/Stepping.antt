-- The phase that comes next, of a plan or by the books, is a move, and what it leaves goes on.
use Rattle.std.proofs.Common.{◌≡◌, ◌≢◌, ℕ, ◌*◌, ◌^◌, ◌<◌, ◌≤◌, inl, inr, Bool, true, false, [], ◌∷◌, length, Option, Some, None, refl, sym, ap, ◌∙◌, subst, arith}
use Rattle.std.specs.Prelude.{if◌then◌else◌, max, slice_get}
use Rattle.std.proofs.lemmas.Bool.Decides.{nat_tests}
use Rattle.onfi_group.specs.Group.{lun_of}
use Rattle.onfi_problem.specs.declared.lun_state.LunState.{LunState}
use Rattle.onfi_problem.specs.declared.lun_state.LunState.TheVariants.{Free, Running}
use Rattle.onfi_problem.specs.Moves.{IsMove, Move, Next, Start, earliest, free_from, move_lun, next_ran, placed}
use Rattle.onfi_problem.specs.Problem.{IsProblem, Problem}
use Rattle.onfi_problem.proofs.Kept.{kept}
use Rattle.std.proofs.lemmas.Option.{slice_get_within}
use Rattle.onfi_problem.proofs.Places.{get_set_other, length_set, same_place}
use Rattle.onfi_problem.proofs.Wants.{filter_shorter}
use Rattle.onfi_schedule.specs.Laws.{ComesNext}
use Rattle.onfi_schedule.specs.Schedule.{Legal, Schedule}
use Rattle.onfi_schedule.proofs.Following.{first_move_law}
use Rattle.onfi_flight.specs.declared.due.Due.{Due}
use Rattle.onfi_flight.specs.Flight.{Flight, IsDue as IsDueOf, IsPhase, move_of}
use Rattle.onfi_steady.specs.Waiting.{Books, channel, wants_of}
use Rattle.onfi_steady.proofs.Following.{run_follows}
use Rattle.onfi_core.specs.declared.outcome.Cause.{Cause}
use Rattle.onfi_core.specs.declared.outcome.Cause.TheVariants.{Clock}
use Rattle.onfi_core.specs.declared.setup.Setup.{Setup}
use Rattle.onfi_core.specs.Dues.{IsDue, IsDueBy, left_by}
use Rattle.onfi_core.specs.Kept.{GoesBy, IsInTime, IsSound, Progress}
use Rattle.onfi_core.specs.State.{HalfState, flight_of}
use Rattle.onfi_core.specs.Steps.{Comes, ComesBy, books_after, is_late_on, moved, stopped_after}
use Rattle.onfi_core.proofs.Halves.{legal_left}

-- it is a move of the problem, at its earliest or later, after which the problem is one and the half goes on
pub record IsStep (s : Setup) (books : Option Books) (now : Problem) (left : Schedule) (progress : Progress) (move : Move) (start : ℕ) : Type 0 where
  pub is_move : IsMove now move
  pub on_time : earliest now move ≤ start
  pub problem : IsProblem (placed now move start)
  pub way : GoesBy s (books_after books move) (placed now move start) left (record progress { stopped = stopped_after books (placed now move start) (move_lun move) progress.stopped })

-- no more wants are left
wants_fewer : (p : Problem) (move : Move) (start : ℕ) → length (placed p move start).wants ≤ length p.wants
wants_fewer p (Next lun) start = by_state (slice_get p.luns lun)
  where
    by_state : (o : Option LunState) → length (next_ran p lun o start).wants ≤ length p.wants
    by_state None = omega arith
    by_state (Some (Free since)) = omega arith
    by_state (Some (Running group next ready)) = omega arith
wants_fewer p (Start group) start = filter_shorter _ p.wants

-- what waits by the books is what isn't started
books_wants : (books : Books) (p : Problem) (move : Move) (start : ℕ) → p.wants ≡ wants_of books.waiting → p.rules ≡ books.rules → IsProblem p → IsMove p move
    → (placed p move start).wants ≡ wants_of (moved books move).waiting
books_wants books p (Next lun) start wants rules is (group, next, ready, at) = ap (λ o. (next_ran p lun o start).wants) at ∙ wants
books_wants books p (Start []) start wants rules is (since, at, st) = absurd (let some = st.group.some in omega (arith, some))
books_wants books p (Start (m ∷ ms)) start wants rules is move =
    let c : Problem = channel p.timing p.bus_free p.luns books in
    let same : p ≡ c = ap (λ ws. let q : Problem = record p { wants = ws } in q) wants ∙ ap (λ r. let q : Problem = record p { wants = wants_of books.waiting; rules = r } in q) rules in
    let follows = run_follows p.timing p.bus_free p.luns books (lun_of (m ∷ ms)) (m ∷ ms) start (subst IsProblem same is) (subst (λ q. IsMove q (Start (m ∷ ms))) same move) refl in
    ap (λ q. (placed q (Start (m ∷ ms)) start).wants) same ∙ ap (λ (q : Problem). q.wants) follows

moved_rules : (books : Books) (move : Move) → (moved books move).rules ≡ books.rules
moved_rules books (Next lun) = refl
moved_rules books (Start []) = refl
moved_rules books (Start (m ∷ ms)) = refl

-- the channel isn't stopped where it wasn't and the phase ended in time
late_none : (late : Bool) (stopped : Option Cause) → (if late then Some Clock else stopped) ≡ None → (late ≡ false) × (stopped ≡ None)
late_none true stopped e = cc
late_none false stopped e = (refl, e)

not_late : (p : Problem) (lun : ℕ) → is_late_on p lun ≡ false → (p.bus_free < 2 ^ 62) × (free_from (slice_get p.luns lun) < 2 ^ 62)
not_late p lun e =
    let low : max p.bus_free (free_from (slice_get p.luns lun)) < 2 ^ 62 = grind (arith, nat_tests) in
    (omega arith, omega arith)

-- other LUNs stay
others_stay : (p : Problem) (move : Move) (start : ℕ) → IsMove p move → (lun : ℕ) → lun ≢ move_lun move → slice_get (placed p move start).luns lun ≡ slice_get p.luns lun
others_stay p (Next l) start (group, next, ready, at) lun d = ap (λ o. slice_get (next_ran p l o start).luns lun) at ∙ get_set_other p.luns l lun _ d
others_stay p (Start group) start move lun d = get_set_other p.luns (lun_of group) lun _ d

in_time_after : (p : Problem) (move : Move) (start : ℕ) → IsMove p move → IsInTime p → is_late_on (placed p move start) (move_lun move) ≡ false → IsInTime (placed p move start)
in_time_after p move start is old e =
    let low = not_late (placed p move start) (move_lun move) e in
    record {
      bus = low.0;
      luns = λ lun. elim (same_place lun (move_lun move)) [
        | inl here ↦ subst (λ l. free_from (slice_get (placed p move start).luns l) < 2 ^ 62) (sym here) low.1
        | inr there ↦ subst (λ o. free_from o < 2 ^ 62) (sym (others_stay p move start is lun there)) (old.luns lun)
      ];
    }

pub steps : (s : Setup) (books : Option Books) (now : Problem) (left : Schedule) (progress : Progress) → now.rules ≡ s.rules → IsProblem now → GoesBy s books now left progress
    → (move : Move) (start : ℕ) (left' : Schedule) → ComesBy books now left move start left' → IsStep s books now left' progress move start
steps s None now left progress rules problem way move start left' next =
    let m = first_move_law now left move start left' problem way.legal next in
    record {
      is_move = m.is_move;
      on_time = m.on_time;
      problem = m.problem;
      way = record { choice = way.choice; few = (let a = wants_fewer now move start in let b = way.few in omega (arith, a, b)); legal = m.legal };
    }
steps s (Some books) now left progress rules problem way move start left' (next, same) =
    let is_move : IsMove now move = subst (IsMove now) (sym next.move_is) next.next.move in
    let at = next.start_is ∙ next.next.start ∙ ap (earliest now) (sym next.move_is) in
    record {
      is_move = is_move;
      on_time = omega (arith, at);
      problem = kept now move start problem is_move;
      way = record {
        choice = way.choice;
        waiting = books_wants books now move start way.waiting (rules ∙ sym way.rules) problem is_move;
        rules = moved_rules books move ∙ way.rules;
        all = way.all;
        current = way.current;
        in_time = λ going. (
            let both = late_none (is_late_on (placed now move start) (move_lun move)) progress.stopped going in
            in_time_after now move start is_move (way.in_time both.1) both.0);
      };
    }

pub step_of : (s : Setup) (h : HalfState) → IsSound s h → (move : Move) (start : ℕ) (left : Schedule) → ComesBy h.books h.now h.left move start left
    → IsStep s h.books h.now left (record { planned = h.planned; accepted = length h.accepted; outdated = h.outdated; stopped = h.stopped }) move start
step_of s h sound move start left next = steps s h.books h.now h.left (record { planned = h.planned; accepted = length h.accepted; outdated = h.outdated; stopped = h.stopped }) sound.rules sound.problem sound.way move start left next

-- the phase that is due comes next
pub record DueStep (books : Option Books) (f : Flight) (due : Due) : Type 0 where
  pub comes : ComesBy books f.now f.left (move_of due) due.start (left_by books f.left due)
  pub phase : IsPhase f.now (move_of due) due.group due.phase
  pub lun : move_lun (move_of due) ≡ due.lun
  pub within : due.phase < 2 * length due.group
  pub is_move : IsMove f.now (move_of due)
  pub on_time : earliest f.now (move_of due) ≤ due.start
  pub time : due.start < 2 ^ 63

due_step : (books : Option Books) (f : Flight) (due : Due) → (books ≡ None → Legal f.now f.left) → IsDueBy books f due → DueStep books f due
due_step None f due legal is = record { comes = is.next (legal refl); phase = is.phase; lun = is.lun; within = is.within; is_move = is.is_move; on_time = is.on_time; time = is.time }
due_step (Some books) f due legal is =
    let at = is.next.start_is ∙ is.next.next.start ∙ ap (earliest f.now) (sym is.next.move_is) in
    record {
      comes = (is.next, refl);
      phase = is.phase;
      lun = is.lun;
      within = is.within;
      is_move = subst (IsMove f.now) (sym is.next.move_is) is.next.next.move;
      on_time = omega (arith, at);
      time = let low = is.time in omega (arith, low);
    }

pub due_of : (s : Setup) (h : HalfState) (due : Due) → IsSound s h → IsDue h due → DueStep h.books (flight_of h) due
due_of s h due sound is = due_step h.books (flight_of h) due (λ none. legal_left s h sound none) is

-- in order it is the undone phase of least start
pub comes_in_order : (h : HalfState) → h.books ≡ None → (move : Move) (start : ℕ) (left : Schedule) → Comes h move start left → ComesNext h.now h.left move start left
comes_in_order h none move start left next = subst (λ b. ComesBy b h.now h.left move start left) none next

pub due_in_order : (h : HalfState) → h.books ≡ None → (due : Due) → IsDue h due → IsDueOf (flight_of h) due
due_in_order h none due is = subst (λ b. IsDueBy b (flight_of h) due) none is

-- as many LUNs are there after a phase
pub placed_luns : (p : Problem) (move : Move) (start : ℕ) → IsMove p move → length (placed p move start).luns ≡ length p.luns
placed_luns p (Next l) start (group, next, ready, at) = ap (λ o. length (next_ran p l o start).luns) at ∙ length_set p.luns l _
placed_luns p (Start group) start move = length_set p.luns (lun_of group) _

move_there : (p : Problem) (move : Move) → IsMove p move → move_lun move < length p.luns
move_there p (Next l) (group, next, ready, at) = slice_get_within p.luns l (Running group next ready) at
move_there p (Start group) (since, at, st) = slice_get_within p.luns (lun_of group) (Free since) at

-- that of the due phase is one of them
pub due_there : (s : Setup) (h : HalfState) (due : Due) → IsSound s h → IsDue h due → due.lun < length (placed h.now (move_of due) due.start).luns
due_there s h due sound is =
    let d = due_of s h due sound is in
    let low = move_there h.now (move_of due) d.is_move in
    let same = placed_luns h.now (move_of due) due.start d.is_move in
    let lun = d.lun in
    omega (arith, low, same, lun)
