-- A channel as a problem is that of its books, whatever happens.
use Rattle.std.proofs.Common.{◌≡◌, ℕ, zero, suc, ◌-◌, ◌<◌, ◌≤◌, ◌⊎◌, ◌∙◌, inl, inr, true, false, List, [], ◌∷◌, ◌++◌, length, map, take, Option, Some, None, ap, arith, refl, subst, sym}
use Rattle.std.specs.Prelude.{◌==◌, if◌then◌else◌, IfNone, MatchOption, slice_get}
use Rattle.std.specs.List.{AllByRecursion as All}
use Rattle.std.proofs.lemmas.Bool.{cases_Bool, cases_eq, cases_lt, eq-eqb, ne_eqb, lt-ltb, false≢true}
use Rattle.std.proofs.lemmas.List.{length-map}
use Rattle.onfi_timing.specs.declared.timing.Timing.{Timing}
use Rattle.onfi_request.specs.declared.want.Want.{Want}
use Rattle.onfi_group.specs.Words.{Has, Pairs}
use Rattle.onfi_group.specs.Group.{IsStartable, is_member, lun_of}
use Rattle.onfi_group.proofs.Lists.{All-append, All-each, Has-map}
use Rattle.onfi_problem.specs.declared.lun_state.LunState.{LunState}
use Rattle.onfi_problem.specs.declared.lun_state.LunState.TheVariants.{Free, Running}
use Rattle.onfi_problem.specs.Moves.{Move, Start, earliest, move_lun, next_ran, placed}
use Rattle.onfi_problem.specs.Problem.{IsProblem, IsWant, Problem}
use Rattle.onfi_problem.proofs.Places.{get_within}
use Rattle.onfi_schedule.proofs.Exchange.{not_member}
use Rattle.onfi_steady.specs.declared.dispatcher.Dispatcher.{Dispatcher}
use Rattle.onfi_steady.specs.declared.line.Line.{Line}
use Rattle.onfi_steady.specs.declared.lun_books.LunBooks.{LunBooks}
use Rattle.onfi_steady.specs.declared.slot.Slot.{Slot}
use Rattle.onfi_steady.specs.declared.waiter.Waiter.{Waiter}
use Rattle.onfi_steady.specs.Ranks.{phase_numbers}
use Rattle.onfi_steady.specs.Waiting.{Books, channel, is_on, left_waiting, want_of, wants_of}
use Rattle.onfi_steady.specs.Offer.{on_lun}
use Rattle.onfi_steady.specs.Next.{IsFirstGiven, IsFirstHeld, IsIdle, given_move, move_by, move_of_phase, own_move}
use Rattle.onfi_steady.specs.Slots.{has_number, is_above, is_line_below, slots_in, waiter_in, waiters_in}
use Rattle.onfi_steady.specs.LunBooks.{state_in, states_in}
use Rattle.onfi_steady.specs.Dispatcher.{array_refusal, begun_books, due_wants, line_refusal, luns_of, states_of}
use Rattle.onfi_steady.specs.Following.{AcceptFollows, OneNext, RanFollows, ReadyFollows, RunFollows, TakesRising, array_fault, phase_ran}
use Rattle.onfi_steady.proofs.Changing.{nothing_waits}
use Rattle.onfi_steady.proofs.Dispatching.{line_at, state_there}
use Rattle.onfi_steady.proofs.Leaving.{left_wants}
use Rattle.onfi_steady.proofs.NextMove.{none_some}
use Rattle.onfi_steady.proofs.Order.{not_both}
use Rattle.onfi_steady.proofs.Selecting.{none_or_some, state_free, state_going}
use Rattle.onfi_steady.proofs.Slots.{run_size}

-- nothing waits where nothing is next
pub none_left : {A : Type 0} (P : A → Type 0) (timing : Timing) (books : Books) (from : ℕ) (luns : List LunBooks) (o : Option A) → All (λ w. w.want.lun < length luns) books.waiting →
    MatchOption o (IsIdle (channel timing from (states_in luns) books)) P → IfNone o (books.waiting ≡ [])
none_left P timing books from luns None there idle =
    nothing_waits (length luns) books.waiting there (subst (λ n. All (λ w. n ≤ w.lun) (wants_of books.waiting)) (length-map luns (λ (l : LunBooks). state_in l.run)) idle.none)
none_left P timing books from luns (Some c) there next = tt

-- members that begin wait for one LUN
own_members : (p : Problem) (members : List Want) (ws : List Waiter) → IsProblem p → p.wants ≡ wants_of ws → IsStartable p.rules p.wants members → All (λ w. is_member members w.want ≡ true → w.want.lun ≡ lun_of members) ws
own_members p members ws is wants starts = All-each (λ (w : Waiter). is_member members w.want ≡ true → w.want.lun ≡ lun_of members) ws (λ w h m. elim (cases_eq w.want.lun (lun_of members)) [
  | inl e ↦ e
  | inr d ↦ absurd (false≢true (sym (not_member p is members starts w.want (subst (λ z. Has z w.want) (sym wants) (Has-map want_of ws w h)) d) ∙ m))
])

pub run_follows : RunFollows
run_follows timing from luns books lun [] started is move on = by_state (slice_get luns lun)
  where
    p : Problem
    p = channel timing from luns books

    by_state : (o : Option LunState) → next_ran p lun o started ≡ channel timing (next_ran p lun o started).bus_free (next_ran p lun o started).luns books
    by_state None = refl
    by_state (Some (Free since)) = refl
    by_state (Some (Running group next ready)) = refl
run_follows timing from luns books lun (m ∷ ms) started is move on =
    let p : Problem = channel timing from luns books in
    let own = own_members p (m ∷ ms) books.waiting is refl move.2 in
    let left : wants_of (left_waiting lun (m ∷ ms) books.waiting) ≡ (placed p (Start (m ∷ ms)) started).wants = left_wants lun (m ∷ ms) books.waiting (subst (λ l. All (λ w. is_member (m ∷ ms) w.want ≡ true → w.want.lun ≡ l) books.waiting) on own) in
    ap (λ z. record (placed p (Start (m ∷ ms)) started) { wants = z }) (sym left)

pub ran_follows : RanFollows
ran_follows timing books old new started is ran =
    run_follows timing old.bus_free (states_of old) books old.due.lun (due_wants old) started is ran.move ran.lun
    ∙ (ap (λ z. channel timing z (phase_ran (channel timing old.bus_free (states_of old) books) old.due.lun (due_wants old) started).luns (begun_books books old.due.lun (due_wants old))) (sym ran.bus_free)
    ∙ ap (λ z. channel timing new.bus_free z (begun_books books old.due.lun (due_wants old))) (sym ran.states))

map_push : {A B : Type 0} (f : A → B) (xs : List A) (x : A) → map f (xs ++ x ∷ []) ≡ map f xs ++ f x ∷ []
map_push f [] x = refl
map_push f (y ∷ xs) x = ap (λ z. f y ∷ z) (map_push f xs x)

pairs_push : {A : Type 0} (R : A → A → Type 0) (xs : List A) (x : A) → Pairs R xs → All (λ y. R y x) xs → Pairs R (xs ++ x ∷ [])
pairs_push R [] x h p = (tt, tt)
pairs_push R (y ∷ xs) x h p = (All-append (R y) xs (x ∷ []) h.0 (p.0, tt), pairs_push R xs x h.1 p.1)

wants_each : (P : Want → Type 0) (ws : List Waiter) → All (λ w. P w.want) ws → All P (wants_of ws)
wants_each P [] h = tt
wants_each P (w ∷ ws) h = (h.0, wants_each P ws h.1)

pub accept_follows : AcceptFollows
accept_follows timing from luns books want = record {
  wants = last;
  problem = λ is valid there rises. record {
    wants = subst (All IsWant) (sym last) (All-append IsWant (wants_of books.waiting) (want ∷ []) is.wants (valid, tt));
    in_range = subst (All (λ w. w.lun < length luns)) (sym last) (All-append (λ (w : Want). w.lun < length luns) (wants_of books.waiting) (want ∷ []) is.in_range (there, tt));
    ids = subst (Pairs (λ a b. a.id < b.id)) (sym last) (pairs_push (λ (a b : Want). a.id < b.id) (wants_of books.waiting) want is.ids (wants_each (λ w. w.id < want.id) books.waiting rises));
    running = is.running;
  };
}
  where
    last : wants_of (books.waiting ++ record { want = want; passed = 0 } ∷ []) ≡ wants_of books.waiting ++ want ∷ []
    last = map_push want_of books.waiting (record { want = want; passed = 0 })

-- a dispatcher's LUN
at_lun : (d : Dispatcher) (lun : ℕ) → lun < length (states_of d) → (l : LunBooks) × (slice_get (luns_of d) lun ≡ Some l)
at_lun d lun h = get_within (luns_of d) lun (subst (λ n. lun < n) (length-map (luns_of d) (λ (l : LunBooks). state_in l.run)) h)

few_on : (lun : ℕ) (ws : List Waiter) → length (on_lun lun ws) ≤ length ws
few_on lun [] = omega arith
few_on lun (w ∷ ws) = elim (cases_Bool (is_on lun w)) [
  | inl k ↦ rw k (let h = few_on lun ws in omega arith)
  | inr k ↦ rw k (let h = few_on lun ws in omega arith)
]

all_on : (P : Waiter → Type 0) (lun : ℕ) (ws : List Waiter) → All P ws → All P (on_lun lun ws)
all_on P lun [] h = tt
all_on P lun (w ∷ ws) h = elim (cases_Bool (is_on lun w)) [
  | inl k ↦ rw k (h.0, all_on P lun ws h.1)
  | inr k ↦ rw k (all_on P lun ws h.1)
]

get_taken_last : (n : ℕ) (xs : List Slot) (id : ℕ) → All (λ (s : Slot). s.id < id) (take (suc n) xs) → is_above (slice_get xs n) id ≡ true
get_taken_last n [] id h = refl
get_taken_last zero (x ∷ xs) id h = lt-ltb x.id id h.0
get_taken_last (suc n) (x ∷ xs) id h = get_taken_last n xs id h.1

slots_below : (id : ℕ) (slots : List Slot) → All (λ w. w.want.id < id) (waiters_in slots) → All (λ (s : Slot). s.id < id) slots
slots_below id [] h = tt
slots_below id (s ∷ slots) h = (h.0, slots_below id slots h.1)

line_below : (line : Line) (id : ℕ) → All (λ (s : Slot). s.id < id) (slots_in line) → is_line_below line id ≡ true
line_below line id h = by_count line.count.of h
  where
    by_count : (n : ℕ) → All (λ (s : Slot). s.id < id) (take n line.slot) → (if n == 0 then true else is_above (slice_get line.slot (n - 1)) id) ≡ true
    by_count zero h = refl
    by_count (suc n) h =
        let e : n ≡ suc n - 1 = omega arith in
        rw (ne_eqb (suc n) 0 (λ e. omega arith)) (subst (λ k. is_above (slice_get line.slot k) id ≡ true) e (get_taken_last n line.slot id h))

none_equal : (id : ℕ) (slots : List Slot) → All (λ (s : Slot). s.id < id) slots → has_number slots id ≡ false
none_equal id [] h = refl
none_equal id (s ∷ slots) h = rw (ne_eqb s.id id (λ e. let k = h.0 in omega arith)) (none_equal id slots h.1)

pub takes_rising : TakesRising
takes_rising timing books d want is there few rises =
    let at = at_lun d want.lun there in
    let l : LunBooks = at.0 in
    let line = line_at timing books (luns_of d) want.lun l is.luns at.1 in
    let size = length-map (slots_in l.line) waiter_in in
    let short = few_on want.lun books.waiting in
    let same = ap length line in
    let older = slots_below want.id (slots_in l.line) (subst (All (λ w. w.want.id < want.id)) (sym line) (all_on (λ w. w.want.id < want.id) want.lun books.waiting rises)) in
    ap (line_refusal want.id) at.1 ∙ rw (line_below l.line want.id older, lt-ltb (length (slots_in l.line)) 64 (omega arith), none_equal want.id (slots_in l.line) older) refl

-- one phase is next
module _ (books : Books) (p : Problem) where
  abbrev IsNext : Move → Type 0
  IsNext m = IsFirstGiven books p m ⊎ IsFirstHeld books p m

  one_move : (m n : Move) → IsNext m → IsNext n → m ≡ n
  one_move m n (inl a) (inl b) = elim (a.first (move_lun n) n b.given) [
    | inl e ↦ sym e
    | inr leads ↦ elim (b.first (move_lun m) m a.given) [
      | inl e ↦ e
      | inr follows ↦ absurd (not_both (phase_numbers p) p m n leads follows)
    ]
  ]
  one_move m n (inl a) (inr b) = none_some (given_move books p (move_lun m)) m (b.none (move_lun m)) a.given
  one_move m n (inr a) (inl b) = none_some (given_move books p (move_lun n)) n (a.none (move_lun n)) b.given
  one_move m n (inr a) (inr b) = elim (cases_lt (move_lun m) (move_lun n)) [
    | inl k ↦ none_some (own_move books p (move_lun m)) m (b.lowest (move_lun m) k) a.own
    | inr k ↦ elim (cases_lt (move_lun n) (move_lun m)) [
      | inl q ↦ none_some (own_move books p (move_lun n)) n (a.lowest (move_lun n) q) b.own
      | inr q ↦ (let e : move_lun m ≡ move_lun n = omega arith in let o = subst (λ z. own_move books p z ≡ Some m) e a.own in let f = b.own in cc)
    ]
  ]

same_members : (i j : ℕ) (xs ys : List Want) → move_by i xs ≡ move_by j ys → xs ≡ ys
same_members i j [] [] e = refl
same_members i j [] (y ∷ ys) e = absurd cc
same_members i j (x ∷ xs) [] e = absurd cc
same_members i j (x ∷ xs) (y ∷ ys) e = cc

pub one_next : OneNext
one_next books p a b x y =
    let e = one_move books p (move_of_phase a) (move_of_phase b) x.next y.next in
    record {
      lun = sym x.lun ∙ (ap move_lun e ∙ y.lun);
      members = same_members a.lun b.lun a.members.items b.members.items e;
      start = x.start ∙ (ap (λ m. earliest p m) e ∙ sym y.start);
    }

pub ready_follows : ReadyFollows
ready_follows d lun = by_option (slice_get (luns_of d) lun) refl
  where
    by_run : (l : LunBooks) → array_refusal (Some l) ≡ array_fault (Some (state_in l.run))
    by_run l = elim (none_or_some l.run.members) [
      | inl e ↦ rw (state_free l.run e, eq-eqb l.run.members 0 e) refl
      | inr h ↦ rw (state_going l.run h, ne_eqb l.run.members 0 (λ e. omega arith), run_size l.run) refl
    ]

    by_option : (o : Option LunBooks) → slice_get (luns_of d) lun ≡ o → array_refusal o ≡ array_fault (slice_get (states_of d) lun)
    by_option None e = ap array_fault (sym (none_there (luns_of d) lun e))
      where
        none_there : (luns : List LunBooks) (i : ℕ) → slice_get luns i ≡ None → slice_get (states_in luns) i ≡ None
        none_there [] i e = refl
        none_there (l ∷ luns) zero e = absurd cc
        none_there (l ∷ luns) (suc i) e = none_there luns i e
    by_option (Some l) e = by_run l ∙ ap array_fault (sym (state_there (luns_of d) lun l e))
