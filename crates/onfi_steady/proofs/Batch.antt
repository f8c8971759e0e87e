-- A dispatcher of a batch, and what it is after a phase.
use Rattle.std.proofs.Common.{◌≡◌, ℕ, zero, suc, ◌+◌, ◌*◌, ◌<◌, ◌≤◌, ◌^◌, ◌∙◌, List, [], ◌∷◌, ◌++◌, get_or, length, map, reverse, take, Some, None, Result, Ok, Err, ap, arith, refl, subst, sym}
use Rattle.std.specs.Prelude.{IfOk, MatchResult, max, slice_get}
use Rattle.std.specs.List.{AllByRecursion as All}
use Rattle.std.proofs.lemmas.List.{length-map, length-take-le, map-append, reverse-append}
use Rattle.onfi_timing.specs.declared.timing.Timing.{Timing}
use Rattle.onfi_request.specs.declared.want.Want.{Want}
use Rattle.onfi_group.specs.Words.{Pairs}
use Rattle.onfi_group.specs.Group.{lun_of}
use Rattle.onfi_problem.specs.declared.lun_state.LunState.{LunState}
use Rattle.onfi_problem.specs.declared.lun_state.LunState.TheVariants.{Free, Running}
use Rattle.onfi_problem.specs.Left.{InLimits}
use Rattle.onfi_problem.specs.Moves.{IsDone, IsMove, Move, Next, Start, after, earliest, placed}
use Rattle.onfi_problem.specs.Problem.{IsProblem, Problem}
use Rattle.onfi_problem.specs.Position.{Position, move_of, moved}
use Rattle.onfi_problem.specs.declared.moves.Move.{Move as KeptMove}
use Rattle.onfi_problem.proofs.Limits.{bus_in_limits, lun_in_limits}
use Rattle.onfi_planner.specs.declared.search.Begun.{Begun}
use Rattle.onfi_planner.specs.Planning.{run_of, taken}
use Rattle.onfi_steady.specs.declared.dispatcher.Dispatcher.{Dispatcher}
use Rattle.onfi_steady.specs.declared.fault.AcceptFault.{AcceptFault}
use Rattle.onfi_steady.specs.declared.lun_books.LunBooks.{LunBooks}
use Rattle.onfi_steady.specs.declared.next.NextPhase.{NextPhase}
use Rattle.onfi_steady.specs.Waiting.{Books, accepted, channel, wants_of}
use Rattle.onfi_steady.specs.Next.{IsIdle, IsNextPhase, move_by, move_of_phase}
use Rattle.onfi_steady.specs.LunBooks.{HasPhaseLeft}
use Rattle.onfi_steady.specs.Selecting.{AreLuns}
use Rattle.onfi_steady.specs.Dispatcher.{HasRun, IsDue, IsOf, accept_refusal, begun_books, due_wants, luns_of, newest_of, states_of}
use Rattle.onfi_steady.specs.Rule.{IsFor, IsWayRun, batch_of, unpassed}
use Rattle.onfi_steady.proofs.Following.{ran_follows, takes_rising}

-- a move starts before 2^62 ns
pub starts_early : (p : Problem) (m : Move) → InLimits p → IsMove p m → earliest p m < 2 ^ 62
starts_early p (Next l) limits (g, n, r, at) = let a = bus_in_limits p limits in let b = lun_in_limits p l (Running g n r) limits at in rw at (omega arith)
starts_early p (Start g) limits (since, at, s) = let a = bus_in_limits p limits in let b = lun_in_limits p (lun_of g) (Free since) limits at in rw at (omega arith)

-- what runs has a phase left
left_each : (luns : List LunState) → ((lun : ℕ) (g : List Want) (n r : ℕ) → slice_get luns lun ≡ Some (Running g n r) → n + 1 ≤ 2 * length g) → All HasPhaseLeft luns
left_each [] h = tt
left_each (Free since ∷ luns) h = (tt, left_each luns (λ lun g n r e. h (suc lun) g n r e))
left_each (Running g n r ∷ luns) h = (h 0 g n r refl, left_each luns (λ lun g n r e. h (suc lun) g n r e))

pub phases_left : (p : Problem) → IsProblem p → All HasPhaseLeft p.luns
phases_left p is = left_each p.luns (λ lun g n r e. let left = (is.running lun g n r e).unfinished in omega arith)

-- what waits of a batch is what is to do
pub batch_wants : (wants : List Want) → wants_of (map unpassed wants) ≡ wants
batch_wants [] = refl
batch_wants (w ∷ wants) = ap (λ z. w ∷ z) (batch_wants wants)

pub for_batch : (p : Problem) (d : Dispatcher) → IsOf p.timing (batch_of p) d → d.bus_free ≡ p.bus_free → states_of d ≡ p.luns → IsFor p (batch_of p) d
for_batch p d is bus states = record {
  is = is;
  same = ap (λ z. channel p.timing z (states_of d) (batch_of p)) bus ∙ (ap (λ z. channel p.timing p.bus_free z (batch_of p)) states ∙ ap (λ z. record p { wants = z }) (batch_wants p.wants));
}

-- the books of the first ones of a batch
abbrev pub first_books : Problem → List Want → Dispatcher → Books
first_books p wants d = record { rules = p.rules; waiting = map unpassed wants; newest = newest_of d }

push_each : (xs : List Want) (x : Want) → map unpassed (xs ++ x ∷ []) ≡ map unpassed xs ++ unpassed x ∷ []
push_each [] x = refl
push_each (y ∷ xs) x = ap (λ z. unpassed y ∷ z) (push_each xs x)

pairs_take : {A : Type 0} (R : A → A → Type 0) (n : ℕ) (xs : List A) → Pairs R xs → Pairs R (take n xs)
pairs_take R zero xs h = tt
pairs_take R (suc n) [] h = tt
pairs_take R (suc n) (x ∷ xs) h = (all_take (R x) n xs h.0, pairs_take R n xs h.1)
  where
    all_take : {A : Type 0} (P : A → Type 0) (n : ℕ) (xs : List A) → All P xs → All P (take n xs)
    all_take P zero xs h = tt
    all_take P (suc n) [] h = tt
    all_take P (suc n) (x ∷ xs) h = (h.0, all_take P n xs h.1)

last_of : {A : Type 0} (P : A → Type 0) (xs : List A) (x : A) → All P (xs ++ x ∷ []) → P x
last_of P [] x h = h.0
last_of P (z ∷ xs) x h = last_of P xs x h.1

before_last : {A : Type 0} (R : A → A → Type 0) (xs : List A) (x : A) → Pairs R (xs ++ x ∷ []) → All (λ y. R y x) xs
before_last R [] x h = tt
before_last R (y ∷ xs) x h = (last_of (R y) xs x h.0, before_last R xs x h.1)

all_unpassed : (P : Want → Type 0) (xs : List Want) → All P xs → All (λ w. P w.want) (map unpassed xs)
all_unpassed P [] h = tt
all_unpassed P (x ∷ xs) h = (h.0, all_unpassed P xs h.1)

-- one more is taken in
pub accepts_more : (p : Problem) (wants : List Want) (i : ℕ) (w : Want) (d new : Dispatcher) (result : Result (Unit {0}) AcceptFault) → IsProblem p → wants ≡ p.wants → length wants ≤ 8 → states_of d ≡ p.luns →
    i < length wants → take (i + 1) wants ≡ take i wants ++ w ∷ [] → w.lun < length p.luns → IsOf p.timing (first_books p (take i wants) d) d →
    ((timing : Timing) (books : Books) → IsOf timing books d → IfOk result (λ _. IsOf timing (accepted books w) new)) →
    MatchResult result (λ _. accept_refusal d w ≡ None) (λ fault. accept_refusal d w ≡ Some fault) → IsOf p.timing (first_books p (take (i + 1) wants) new) new
accepts_more p wants i w d new result is e few states within more there holds accepts refused = by_result result (accepts p.timing books holds) refused
  where
    books : Books
    books = first_books p (take i wants) d

    rises : All (λ v. v.id < w.id) (take i wants)
    rises = before_last (λ a b. a.id < b.id) (take i wants) w (subst (Pairs (λ a b. a.id < b.id)) more (pairs_take (λ a b. a.id < b.id) (i + 1) wants (subst (Pairs (λ a b. a.id < b.id)) (sym e) is.ids)))

    none : accept_refusal d w ≡ None
    none = takes_rising p.timing books d w holds (subst (λ (z : List LunState). w.lun < length z) (sym states) there)
        (let a = length-map (take i wants) unpassed in let b = length-take-le i wants (omega arith) in omega arith) (all_unpassed (λ v. v.id < w.id) (take i wants) rises)

    by_result : (result : Result (Unit {0}) AcceptFault) → IfOk result (λ _. IsOf p.timing (accepted books w) new) → MatchResult result (λ _. accept_refusal d w ≡ None) (λ fault. accept_refusal d w ≡ Some fault) →
        IsOf p.timing (first_books p (take (i + 1) wants) new) new
    by_result (Ok u) now r =
        let waits : map unpassed (take (i + 1) wants) ≡ map unpassed (take i wants) ++ unpassed w ∷ [] = ap (map unpassed) more ∙ push_each (take i wants) w in
        subst (λ z. IsOf p.timing (record { rules = p.rules; waiting = z; newest = newest_of new }) new) (sym waits)
        (subst (λ z. IsOf p.timing (record { rules = p.rules; waiting = map unpassed (take i wants) ++ unpassed w ∷ []; newest = z }) new) (sym now.newest) now)
    by_result (Err fault) now r = let q : None ≡ Some fault = sym none ∙ r in absurd cc

-- a dispatcher of which only what is due changed
pub still_for : (p : Problem) (books : Books) (old mid : Dispatcher) → IsFor p books old → IsOf p.timing books mid → states_of mid ≡ states_of old → mid.bus_free ≡ old.bus_free → IsFor p books mid
still_for p books old mid is of states bus = record { is = of; same = ap (λ z. channel p.timing z (states_of mid) books) bus ∙ (ap (λ z. channel p.timing old.bus_free z books) states ∙ is.same) }

-- after the phase that is due the dispatcher is that of the problem that it leaves
pub ran_for : (p : Problem) (books : Books) (mid new : Dispatcher) (phase : NextPhase) → IsProblem p → IsFor p books mid → IsDue mid phase → IsNextPhase books p phase → HasRun p.timing books mid new phase.start →
    IsFor (after p (move_of_phase phase)) (begun_books books phase.lun phase.members.items) new
ran_for p books mid new phase problem is due next ran = record {
  is = subst (λ t. IsOf t left new) (sym (ap (λ (z : Problem). z.timing) follows)) (subst (λ z. IsOf p.timing z new) books' ran.is);
  same = ap (λ t. channel t new.bus_free (states_of new) left) (ap (λ (z : Problem). z.timing) follows) ∙ sym follows;
}
  where
    left : Books
    left = begun_books books phase.lun phase.members.items

    books' : begun_books books mid.due.lun (due_wants mid) ≡ left
    books' = ap (λ l. begun_books books l (due_wants mid)) due.lun ∙ ap (begun_books books phase.lun) due.members

    move' : move_by mid.due.lun (due_wants mid) ≡ move_of_phase phase
    move' = ap (λ l. move_by l (due_wants mid)) due.lun ∙ ap (move_by phase.lun) due.members

    follows : after p (move_of_phase phase) ≡ channel p.timing new.bus_free (states_of new) left
    follows =
        ap (placed p (move_of_phase phase)) (sym next.start)
        ∙ (ap (λ z. placed z (move_of_phase phase) phase.start) (sym is.same)
        ∙ (ap (λ m. placed (channel p.timing mid.bus_free (states_of mid) books) m phase.start) (sym move')
        ∙ (ran_follows p.timing books mid new phase.start (subst IsProblem (sym is.same) problem) ran ∙ ap (channel p.timing new.bus_free (states_of new)) books')))

-- what `next` gave is next of the problem
pub next_for : (p : Problem) (books : Books) (d : Dispatcher) (now : ℕ) (phase : NextPhase) → IsFor p books d → now ≡ p.bus_free →
    IsNextPhase books (channel p.timing (max d.bus_free now) (states_of d) books) phase → IsNextPhase books p phase
next_for p books d now phase is at next =
    let bus : d.bus_free ≡ p.bus_free = ap (λ (z : Problem). z.bus_free) is.same in
    let e : max d.bus_free now ≡ d.bus_free = omega arith in
    subst (λ z. IsNextPhase books z phase) (ap (λ z. channel p.timing z (states_of d) books) e ∙ is.same) next

pub phase_starts_early : (p : Problem) (books : Books) (phase : NextPhase) → InLimits p → IsNextPhase books p phase → phase.start < 2 ^ 62
phase_starts_early p books phase limits next = let early = starts_early p (move_of_phase phase) limits next.move in let at = next.start in omega arith

-- the LUN of a want is there
pub lun_within : (p : Problem) (wants : List Want) (i : ℕ) (d : Want) → IsProblem p → wants ≡ p.wants → i < length wants → (get_or wants i d).lun < length p.luns
lun_within p wants i d is e within = at wants i within (subst (All (λ w. w.lun < length p.luns)) (sym e) is.in_range)
  where
    at : (ws : List Want) (i : ℕ) → i < length ws → All (λ w. w.lun < length p.luns) ws → (get_or ws i d).lun < length p.luns
    at [] i k h = absurd (omega arith)
    at (w ∷ ws) zero k h = h.0
    at (w ∷ ws) (suc i) k h = at ws i (omega arith) h.1

-- the newest program is forgotten
pub forgets_newest : (p : Problem) (old new : Dispatcher) → IsOf p.timing (first_books p p.wants old) old → new.rules ≡ old.rules → new.spans ≡ old.spans → newest_of new ≡ None →
    luns_of new ≡ luns_of old → new.bus_free ≡ old.bus_free → IsOf p.timing (batch_of p) new
forgets_newest p old new is rules spans newest luns bus = record {
  spans = rw spans is.spans;
  rules = rules ∙ is.rules;
  newest = newest;
  planes = is.planes;
  distinct = is.distinct;
  there = subst (λ (ls : List LunBooks). All (λ w. w.want.lun < length ls) (map unpassed p.wants)) (sym luns) is.there;
  luns = subst (AreLuns p.timing (batch_of p)) (sym luns) (record { each = is.luns.each; waiting = is.luns.waiting });
}

-- one step before those that are left
pub way_step : (x : Position) (books : Books) (phase : NextPhase) (m : KeptMove) (y : Position) (later steps : List Begun) (finish : ℕ) → IsNextPhase books x.problem phase → move_of x.groups m ≡ move_of_phase phase →
    y ≡ moved x m → IsWayRun (begun_books books phase.lun phase.members.items) y.problem (run_of y.groups later) finish → steps ≡ later ++ record { step = m; start = phase.start } ∷ [] →
    IsWayRun books x.problem (run_of x.groups steps) finish
way_step x books phase m y later steps finish next is same more pushed =
    subst (λ z. IsWayRun books x.problem z finish) (sym spelled) (phase, next, is, refl, subst (λ (z : Position). IsWayRun (begun_books books phase.lun phase.members.items) z.problem (run_of z.groups later) finish) same more)
  where
    first : Begun
    first = record { step = m; start = phase.start }

    spelled : run_of x.groups steps ≡ record { move = move_of x.groups m; start = phase.start } ∷ run_of x.groups later
    spelled = ap (run_of x.groups) pushed ∙ (ap reverse (map-append (taken x.groups) later (first ∷ [])) ∙ reverse-append (map (taken x.groups) later) (taken x.groups first ∷ []))
