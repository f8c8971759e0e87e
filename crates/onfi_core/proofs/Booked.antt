-- What is kept of a channel that goes by its books.
use Rattle.std.proofs.Common.{◌≡◌, ◌≢◌, ℕ, zero, suc, ◌*◌, ◌^◌, ◌<◌, ◌≤◌, Bool, true, false, List, [], ◌∷◌, length, Option, Some, None, Result, Ok, Err, IfOk, refl, sym, ap, ◌∙◌, subst, arith}
use Rattle.std.specs.Prelude.{if◌then◌else◌, IfNone, MatchOption, is_some, max, nat_lt, not, replicate, slice_get, ◌==◌}
use Rattle.std.proofs.lemmas.Bool.{le-ltb, lt-ltb}
use Rattle.std.proofs.lemmas.List.{length-map}
use Rattle.std.specs.List.{AllByRecursion as All}
use Rattle.onfi_timing.specs.declared.timing.Timing.{Timing}
use Rattle.onfi_request.specs.declared.want.Want.{Want}
use Rattle.onfi_group.specs.Group.{IsStartable}
use Rattle.onfi_problem.specs.declared.lun_state.LunState.{LunState}
use Rattle.onfi_problem.specs.declared.lun_state.LunState.TheVariants.{Free, Running}
use Rattle.onfi_problem.specs.Moves.{IsMove, Move, Next, Start, earliest, move_lun, placed}
use Rattle.onfi_problem.specs.Problem.{IsProblem, Problem}
use Rattle.onfi_schedule.specs.Schedule.{Schedule}
use Rattle.onfi_flight.specs.declared.due.Due.{Due}
use Rattle.onfi_flight.specs.Flight.{Flight, IsPhase, move_of, waited as flight_waited}
use Rattle.onfi_steady.specs.declared.dispatcher.Dispatcher.{Dispatcher}
use Rattle.onfi_steady.specs.declared.fault.RanFault.TheVariants.{TooLate}
use Rattle.onfi_steady.specs.declared.next.NextPhase.{NextPhase}
use Rattle.onfi_steady.specs.declared.waiter.Waiter.{Waiter}
use Rattle.onfi_steady.specs.Dispatcher.{HasRun, IsDue, IsOf, accept_refusal, begun_books, due_wants, has_due, ran_refusal, ready_refusal, states_of}
use Rattle.onfi_steady.specs.Following.{array_fault}
use Rattle.onfi_steady.specs.Next.{IsIdle, IsNextPhase, move_by, move_of_phase}
use Rattle.onfi_steady.specs.Waiting.{Books, channel, want_of, wants_of}
use Rattle.onfi_steady.proofs.Following.{one_next, ran_follows, ready_follows, takes_rising}
use Rattle.std.proofs.lemmas.Option.{slice_get_within}
use Rattle.onfi_core.specs.declared.way.books.BooksWay.{BooksWay}
use Rattle.onfi_core.specs.Dues.{IsNextDue}
use Rattle.onfi_core.specs.State.{Way}
use Rattle.onfi_core.specs.Ways.{AreBooks, books_way, way_waited}
use Rattle.onfi_core.specs.Kept.{IsInTime}
use Rattle.onfi_core.specs.Steps.{is_empty, is_in_array, moved, none_left_by, none_runs}

-- Whether a phase is left

-- time is from when on the bus is free
pub from_zero : (n : ℕ) → max n 0 ≡ n
from_zero n = omega arith

runs_none : (luns : List LunState) → ((lun : ℕ) (group : List Want) (next ready : ℕ) → slice_get luns lun ≢ Some (Running group next ready)) → none_runs luns ≡ true
runs_none [] free = refl
runs_none (Free since ∷ luns) free = runs_none luns (λ lun group next ready e. free (suc lun) group next ready e)
runs_none (Running group next ready ∷ luns) free = absurd (free zero group next ready refl)

runs_some : (luns : List LunState) (lun : ℕ) (group : List Want) (next ready : ℕ) → slice_get luns lun ≡ Some (Running group next ready) → none_runs luns ≡ false
runs_some [] lun group next ready e = cc
runs_some (Free since ∷ luns) zero group next ready e = cc
runs_some (Free since ∷ luns) (suc lun) group next ready e = runs_some luns lun group next ready e
runs_some (Running g n r ∷ luns) lun group next ready e = refl

either_none : (a b : Bool) → b ≡ false → (if a then b else false) ≡ false
either_none true b e = e
either_none false b e = refl

started_some : (rules : _) (wants group : List Want) → IsStartable rules wants group → is_empty wants ≡ false
started_some rules (w ∷ ws) group st = refl
started_some rules [] [] st = absurd (let some = st.group.some in omega (arith, some))
started_some rules [] (m ∷ ms) st = absurd (let first : None ≡ Some m = st.first.0 in cc)

-- where a move is there something is left
move_left : (p : Problem) (move : Move) → IsMove p move → (if is_empty p.wants then none_runs p.luns else false) ≡ false
move_left p (Next lun) (group, next, ready, at) = either_none (is_empty p.wants) (none_runs p.luns) (runs_some p.luns lun group next ready at)
move_left p (Start group) (since, at, st) = ap (λ b. if b then none_runs p.luns else false) (started_some p.rules p.wants group st)

-- nothing is left exactly where nothing is next
pub left_is : (timing : Timing) (books : Books) (from : ℕ) (luns : List LunState) (left : Schedule) (o : Option NextPhase) → MatchOption o (IsIdle (channel timing (max from 0) luns books)) (IsNextPhase books (channel timing (max from 0) luns books))
    → IfNone o (books.waiting ≡ []) → none_left_by (Some books) (channel timing from luns books) left ≡ not (is_some o)
left_is timing books from luns left None idle empty =
    ap (λ ws. if is_empty (wants_of ws) then none_runs luns else false) empty ∙ runs_none luns idle.free
left_is timing books from luns left (Some phase) next empty =
    let next' = subst (λ n. IsNextPhase books (channel timing n luns books) phase) (from_zero from) next in
    move_left (channel timing from luns books) (move_of_phase phase) next'.move

pub twice_not : (b c : Bool) → c ≡ not b → not c ≡ b
twice_not true c e = ap not e
twice_not false c e = ap not e

-- The phase that is due

starts_in_time : (p : Problem) (move : Move) → IsInTime p → earliest p move < 2 ^ 62
starts_in_time p move t = let a = t.bus in let b = t.luns (move_lun move) in omega (arith, a, b)

start_of : (lun : ℕ) (members : List Want) → is_empty members ≡ false → Start members ≡ move_by lun members
start_of lun [] e = cc
start_of lun (m ∷ ms) e = refl

next_of : (lun : ℕ) (members : List Want) → members ≡ [] → Next lun ≡ move_by lun members
next_of lun members e = ap (move_by lun) (sym e)

module _ (books : Books) (p : Problem) (phase : NextPhase) (next : IsNextPhase books p phase) (in_time : IsInTime p) where
  in_time_start : phase.start < 2 ^ 62
  in_time_start = let e = next.start in let low = starts_in_time p (move_of_phase phase) in_time in omega (arith, e, low)

  -- a group begins
  pub begin_due : (due : Due) → is_empty phase.members.items ≡ false → 1 ≤ length due.group → move_of due ≡ Start due.group → due.group ≡ phase.members.items → due.phase ≡ 0 → due.start ≡ phase.start → due.lun ≡ phase.lun → IsNextDue books p due
  begin_due due some size move group number start lun =
      let is : move_of due ≡ move_of_phase phase = move ∙ ap Start group ∙ start_of phase.lun phase.members.items some in
      record {
        next = record { phase = phase; next = next; move_is = is; start_is = start };
        phase = subst (λ (m : Move). IsPhase p m due.group due.phase) (sym move) (refl, number);
        lun = ap move_lun is ∙ next.lun ∙ sym lun;
        within = omega (arith, size, number);
        time = let low = in_time_start in omega (arith, low, start);
      }

  -- what runs goes on
  pub going_due : (due : Due) (ready : ℕ) → phase.members.items ≡ [] → slice_get p.luns phase.lun ≡ Some (Running due.group due.phase ready) → due.phase < 2 * length due.group → move_of due ≡ Next due.lun → due.start ≡ phase.start → due.lun ≡ phase.lun → IsNextDue books p due
  going_due due ready none there within move start lun =
      let step : move_of due ≡ Next phase.lun = move ∙ ap Next lun in
      let is : move_of due ≡ move_of_phase phase = step ∙ next_of phase.lun phase.members.items none in
      record {
        next = record { phase = phase; next = next; move_is = is; start_is = start };
        phase = subst (λ (m : Move). IsPhase p m due.group due.phase) (sym step) (ready, there);
        lun = ap move_lun is ∙ next.lun ∙ sym lun;
        within = within;
        time = let low = in_time_start in omega (arith, low, start);
      }

  -- the LUN is there, and runs something where no members begin
  pub lun_runs : phase.members.items ≡ [] → IsMove p (Next phase.lun)
  lun_runs none = subst (IsMove p) (sym (next_of phase.lun phase.members.items none)) next.move

-- The phase ran

moved_by : (books : Books) (lun : ℕ) (members : List Want) → move_lun (move_by lun members) ≡ lun → moved books (move_by lun members) ≡ begun_books books lun members
moved_by books lun [] e = refl
moved_by books lun (m ∷ ms) e = ap (λ n. begun_books books n (m ∷ ms)) e

-- the dispatcher is asked anew, and gives the due phase
pub record Asked (timing : Timing) (books : Books) (old mid : Dispatcher) (due : Due) : Type 0 where
  pub is : IsOf timing books mid
  pub has : has_due mid ≡ true
  pub move : move_by mid.due.lun (due_wants mid) ≡ move_of due
  pub lun : move_lun (move_of due) ≡ mid.due.lun
  pub start : mid.due.start ≡ due.start
  pub states : states_of mid ≡ states_of old
  pub bus : mid.bus_free ≡ old.bus_free

pub asks : (timing : Timing) (books : Books) (old mid : Dispatcher) (due : Due) (o : Option NextPhase) → IsNextDue books (channel timing old.bus_free (states_of old) books) due
    → MatchOption o (IsIdle (channel timing (max old.bus_free 0) (states_of old) books)) (IsNextPhase books (channel timing (max old.bus_free 0) (states_of old) books))
    → IfNone o (books.waiting ≡ []) → MatchOption o (has_due mid ≡ false) (IsDue mid) → IsOf timing books mid → states_of mid ≡ states_of old → mid.bus_free ≡ old.bus_free
    → Asked timing books old mid due
asks timing books old mid due None is idle empty none same states bus =
    let p : Problem = channel timing old.bus_free (states_of old) books in
    let idle' = subst (λ n. IsIdle (channel timing n (states_of old) books)) (from_zero old.bus_free) idle in
    let some = move_left p (move_of due) (subst (IsMove p) (sym is.next.move_is) is.next.next.move) in
    let none' : (if is_empty p.wants then none_runs p.luns else false) ≡ true = ap (λ ws. if is_empty (wants_of ws) then none_runs (states_of old) else false) empty ∙ runs_none (states_of old) idle'.free in
    absurd (let q : true ≡ false = sym none' ∙ some in cc)
asks timing books old mid due (Some phase) is next empty is_due same states bus =
    let p : Problem = channel timing old.bus_free (states_of old) books in
    let next' = subst (λ n. IsNextPhase books (channel timing n (states_of old) books) phase) (from_zero old.bus_free) next in
    let one = one_next books p phase is.next.phase next' is.next.next in
    let move : move_by mid.due.lun (due_wants mid) ≡ move_of due =
    ap (λ n. move_by n (due_wants mid)) (is_due.lun ∙ one.lun) ∙ ap (move_by is.next.phase.lun) (is_due.members ∙ one.members) ∙ sym is.next.move_is in
    record {
      is = same;
      has = is_due.is;
      move = move;
      lun = ap move_lun is.next.move_is ∙ is.next.next.lun ∙ sym (is_due.lun ∙ one.lun);
      start = is_due.start ∙ one.start ∙ sym is.next.start_is;
      states = states;
      bus = bus;
    }

pub may_run : (mid : Dispatcher) (start : ℕ) → has_due mid ≡ true → mid.due.start ≡ start → start < 2 ^ 62 → ran_refusal mid start ≡ None
may_run mid start has e low =
    let late : (if nat_lt start (2 ^ 62) then None else Some TooLate) ≡ None = rw (lt-ltb start (2 ^ 62) low) refl in
    rw (has, le-ltb start mid.due.start (omega (arith, e))) late

module _ (timing : Timing) (books : Books) (old mid new : Dispatcher) (due : Due) (asked : Asked timing books old mid due) (ran : HasRun timing books mid new due.start) (problem : IsProblem (channel timing old.bus_free (states_of old) books)) where
  books_are : begun_books books mid.due.lun (due_wants mid) ≡ moved books (move_of due)
  books_are = sym (moved_by books mid.due.lun (due_wants mid) (ap move_lun asked.move ∙ asked.lun)) ∙ ap (moved books) asked.move

  same_channel : channel timing mid.bus_free (states_of mid) books ≡ channel timing old.bus_free (states_of old) books
  same_channel = ap (λ n. channel timing n (states_of mid) books) asked.bus ∙ ap (λ ls. channel timing old.bus_free ls books) asked.states

  pub kept_books : IsOf timing (moved books (move_of due)) new
  kept_books = subst (λ b. IsOf timing b new) books_are ran.is

  pub channel_after : channel timing new.bus_free (states_of new) (moved books (move_of due)) ≡ placed (channel timing old.bus_free (states_of old) books) (move_of due) due.start
  channel_after =
      let follows = ran_follows timing books mid new due.start (subst IsProblem (sym same_channel) problem) ran in
      ap (λ b. channel timing new.bus_free (states_of new) b) (sym books_are) ∙ sym follows
      ∙ ap (λ m. placed (channel timing mid.bus_free (states_of mid) books) m due.start) asked.move ∙ ap (λ q. placed q (move_of due) due.start) same_channel

-- A LUN that is ready

pub array_open : (d : Dispatcher) (lun : ℕ) → is_in_array (slice_get (states_of d) lun) ≡ true → ready_refusal d lun ≡ None
array_open d lun in_array = ready_follows d lun ∙ by_state (slice_get (states_of d) lun) in_array
  where
    by_state : (o : Option LunState) → is_in_array o ≡ true → array_fault o ≡ None
    by_state None e = cc
    by_state (Some (Free since)) e = cc
    by_state (Some (Running group next ready)) e = rw e refl

-- whether its array works, by what it runs
pub in_array_is : (o : Option LunState) (group : List Want) (next ready : ℕ) → o ≡ Some (Running group next ready) → (next == length group) ≡ is_in_array o
in_array_is o group next ready e = sym (ap is_in_array e)

pub not_in_array : (o : Option LunState) (since : ℕ) → o ≡ Some (Free since) → false ≡ is_in_array o
not_in_array o since e = sym (ap is_in_array e)

-- What a dispatcher in a box said, said of the books

abbrev pub NextOf : Dispatcher → Option NextPhase → Type 0
NextOf d o = (timing : Timing) (books : Books) → IsOf timing books d → MatchOption o (IsIdle (channel timing (max d.bus_free 0) (states_of d) books)) (IsNextPhase books (channel timing (max d.bus_free 0) (states_of d) books))

abbrev pub NoneOf : Dispatcher → Option NextPhase → Type 0
NoneOf d o = (timing : Timing) (books : Books) → IsOf timing books d → IfNone o (books.waiting ≡ [])

pub looked_left : (b : BooksWay) (d : Dispatcher) (o : Option NextPhase) → d ≡ b.dispatcher.value → AreBooks b → NextOf d o → NoneOf d o
    → none_left_by (books_way b).books (books_way b).now (books_way b).left ≡ not (is_some o)
looked_left b d o e are next empty =
    let next' = subst (λ x. NextOf x o) e next b.timing b.known.books are in
    let empty' = subst (λ x. NoneOf x o) e empty b.timing b.known.books are in
    left_is b.timing b.known.books b.dispatcher.value.bus_free (states_of b.dispatcher.value) (books_way b).left o next' empty'

pub looked_next : (b : BooksWay) (d : Dispatcher) (o : Option NextPhase) (phase : NextPhase) → d ≡ b.dispatcher.value → AreBooks b → NextOf d o → o ≡ Some phase
    → IsNextPhase b.known.books (books_way b).now phase
looked_next b d o phase e are next is =
    let next' = subst (λ x. NextOf x o) e next b.timing b.known.books are in
    let found = subst (λ x. MatchOption x (IsIdle (channel b.timing (max b.dispatcher.value.bus_free 0) (states_of b.dispatcher.value) b.known.books)) (IsNextPhase b.known.books (channel b.timing (max b.dispatcher.value.bus_free 0) (states_of b.dispatcher.value) b.known.books))) is next' in
    subst (λ n. IsNextPhase b.known.books (channel b.timing n (states_of b.dispatcher.value) b.known.books) phase) (from_zero b.dispatcher.value.bus_free) found

-- a LUN of a move is there
pub there_of : (p : Problem) (lun : ℕ) → IsMove p (Next lun) → lun < length p.luns
there_of p lun (group, next, ready, at) = slice_get_within p.luns lun (Running group next ready) at

-- where it runs nothing no move goes on
pub runs_there : (p : Problem) (lun since : ℕ) → IsMove p (Next lun) → slice_get p.luns lun ≡ Some (Free since) → ⊥
runs_there p lun since (group, next, ready, at) free = let q : Some (Running group next ready) ≡ Some (Free since) = sym at ∙ free in cc

-- the phase of what runs is one of its group
pub within_group : (p : Problem) → IsProblem p → (lun : ℕ) (group : List Want) (next ready : ℕ) → slice_get p.luns lun ≡ Some (Running group next ready) → next < 2 * length group
within_group p is lun group next ready at = (is.running lun group next ready at).unfinished

pub none_some : {A : Type 0} {x : A} (o : Option A) → o ≡ None → o ≡ Some x → ⊥
none_some o none some = let q = sym none ∙ some in cc

all_waiting : (id : ℕ) (ws : List Waiter) → All (λ (w : Want). w.id < id) (wants_of ws) → All (λ w. w.want.id < id) ws
all_waiting id [] h = tt
all_waiting id (w ∷ ws) h = (h.0, all_waiting id ws h.1)

-- a request whose number is above all others is taken in while fewer than 64 wait
pub never_refused : (b : BooksWay) (d : Dispatcher) (want : Want) → d ≡ b.dispatcher.value → AreBooks b → want.lun < length (books_way b).now.luns → length (books_way b).now.wants < 64
    → All (λ (w : Want). w.id < want.id) (books_way b).now.wants → accept_refusal d want ≡ None
never_refused b d want e are lun room next =
    subst (λ x. accept_refusal x want ≡ None) (sym e)
    (takes_rising b.timing b.known.books b.dispatcher.value want are lun (omega (arith, room, length-map b.known.books.waiting want_of)) (all_waiting want.id b.known.books.waiting next))

-- the dispatcher in its box is asked anew
pub asked_of : (b : BooksWay) (d mid : Dispatcher) (due : Due) (o : Option NextPhase) → d ≡ b.dispatcher.value → AreBooks b → IsNextDue b.known.books (books_way b).now due → NextOf d o → NoneOf d o
    → MatchOption o (has_due mid ≡ false) (IsDue mid) → ((timing : Timing) (books : Books) → IsOf timing books d → IsOf timing books mid) → states_of mid ≡ states_of d → mid.bus_free ≡ d.bus_free
    → Asked b.timing b.known.books b.dispatcher.value mid due
asked_of b d mid due o e are is next empty found same states bus =
    asks b.timing b.known.books b.dispatcher.value mid due o is (subst (λ x. NextOf x o) e next b.timing b.known.books are) (subst (λ x. NoneOf x o) e empty b.timing b.known.books are) found
    (same b.timing b.known.books (subst (IsOf b.timing b.known.books) (sym e) are)) (states ∙ ap states_of e) (bus ∙ ap (λ (x : Dispatcher). x.bus_free) e)

pub not_nil : (xs : List Want) → (length xs == 0) ≡ false → is_empty xs ≡ false
not_nil [] e = cc
not_nil (x ∷ xs) e = refl

pub some_members : (xs : List Want) → is_empty xs ≡ false → 1 ≤ length xs
some_members [] e = cc
some_members (x ∷ xs) e = omega arith

all_free : (luns : List LunState) (n : ℕ) → length luns ≡ n → All (λ s. s ≡ Free 0) luns → luns ≡ replicate n (Free 0)
all_free [] zero e h = refl
all_free [] (suc n) e h = cc
all_free (l ∷ luns) zero e h = cc
all_free (l ∷ luns) (suc n) e h = ap (λ s. s ∷ luns) h.0 ∙ ap (λ ls. Free 0 ∷ ls) (all_free luns n (omega (arith, e)) h.1)

-- a dispatcher begins with LUNs that are free
pub free_luns : (d box : Dispatcher) (luns : ℕ) → box ≡ d → length (states_of d) ≡ luns → All (λ s. s ≡ Free 0) (states_of d) → states_of box ≡ replicate luns (Free 0)
free_luns d box luns e count free = ap states_of e ∙ all_free (states_of d) luns count free

-- a LUN whose array works runs a group
pub array_runs : (o : Option LunState) → is_in_array o ≡ true → (group : List Want) × (next : ℕ) × (ready : ℕ) × (o ≡ Some (Running group next ready))
array_runs None e = cc
array_runs (Some (Free since)) e = cc
array_runs (Some (Running group next ready)) e = (group, next, ready, refl)

-- what is left of a plan waited as its way says
pub plan_waited : {E : Type 0} (f f' : Flight) (moment : ℕ) (r : Result ℕ E) → IfOk r (λ bus. (bus ≡ max f.now.bus_free moment) × (f' ≡ flight_waited moment f))
    → IfOk r (λ bus. (bus ≡ max f.now.bus_free moment) × ((let w : Way = record { now = f'.now; left = f'.left; books = None } in w) ≡ way_waited moment (record { now = f.now; left = f.left; books = None })))
plan_waited f f' moment (Ok bus) (e, is) = (e, ap (λ (x : Flight). let w : Way = record { now = x.now; left = x.left; books = None } in w) is)
plan_waited f f' moment (Err stop) h = tt
