-- An open node shows its demand, from those after its moves.
use Rattle.std.proofs.Common.{◌≡◌, ◌≢◌, ℕ, zero, suc, ◌+◌, ◌-◌, ◌≤◌, ◌<◌, ◌⊎◌, inl, inr, true, List, [], ◌∷◌, length, map, Option, Some, None, refl, sym, ap, ◌∙◌, subst, arith}
use Rattle.std.specs.Prelude.{slice_get, max, nat_le, if◌then◌else◌, ◌==◌}
use Rattle.std.specs.List.{AllByRecursion as All}
use Rattle.std.proofs.lemmas.Bool.{cases_Bool, eq-eqb, ne_eqb, eqb-true, leb-true}
use Rattle.onfi_request.specs.declared.want.Want.{Want}
use Rattle.onfi_request.proofs.Faults.{below}
use Rattle.onfi_group.specs.Words.{Has}
use Rattle.onfi_problem.specs.declared.lun_state.LunState.{LunState}
use Rattle.onfi_problem.specs.declared.lun_state.LunState.TheVariants.{Free, Running}
use Rattle.onfi_problem.specs.Problem.{Problem, IsProblem}
use Rattle.onfi_problem.specs.Moves.{Move, IsMove, IsDone, AreMoves, earliest, placed, after, move_lun, may_go, free_from}
use Rattle.onfi_problem.proofs.Kept.{kept}
use Rattle.onfi_problem.proofs.Perm.{All-has}
use Rattle.onfi_problem.proofs.Places.{same_place, within_get}
use Rattle.onfi_schedule.specs.Runs.{Step, Run}
use Rattle.onfi_schedule.proofs.Exchange.{yielding, not_done}
use Rattle.onfi_bound.specs.Bounds.{on_lun}
use Rattle.onfi_demand.specs.Left.{left_on, SameLeft, has_left_at, has_left}
use Rattle.onfi_demand.specs.Demand.{Demand, Meets, Bounded, Holds, of_luns, greatest, length_of, wait_of, through_bus, of_own, asked}
use Rattle.onfi_demand.specs.Laws.{Shows, GivesWay, OpenLaw, AskedLaw}
use Rattle.onfi_demand.proofs.Alike.{BothMove, both_move, back_same, same_has, other_has}
use Rattle.onfi_demand.proofs.Sooner.{move_has, done_alike, sooner_behind, run_sooner, sooner_runs}

pub same_self : (p : Problem) → SameLeft p p
same_self p = record { timing = refl; rules = refl; luns = refl; wants = refl }

-- the same left, with LUN l to go on from d l
abbrev from_time : LunState → ℕ → LunState
from_time (Free since) t = Free t
from_time (Running g n ready) t = Running g n t

abbrev retimed : (ℕ → ℕ) → ℕ → List LunState → List LunState
retimed d i [] = []
retimed d i (x ∷ xs) = from_time x (d i) ∷ retimed d (i + 1) xs

retimed_alike : (d : ℕ → ℕ) (i : ℕ) (xs : List LunState) → map left_on xs ≡ map left_on (retimed d i xs)
retimed_alike d i [] = refl
retimed_alike d i (Free a ∷ xs) = ap (λ ys. left_on (Free a) ∷ ys) (retimed_alike d (i + 1) xs)
retimed_alike d i (Running g n r ∷ xs) = ap (λ ys. left_on (Running g n r) ∷ ys) (retimed_alike d (i + 1) xs)

retimed_length : (d : ℕ → ℕ) (i : ℕ) (xs : List LunState) → length (retimed d i xs) ≡ length xs
retimed_length d i [] = refl
retimed_length d i (x ∷ xs) = ap suc (retimed_length d (i + 1) xs)

retimed_from : (d : ℕ → ℕ) (i l : ℕ) (xs : List LunState) → l < length xs → free_from (slice_get (retimed d i xs) l) ≡ d (i + l)
retimed_from d i l [] h = absurd (omega arith)
retimed_from d i zero (Free a ∷ xs) h = let z : i ≡ i + 0 = omega arith in ap d z
retimed_from d i zero (Running g n r ∷ xs) h = let z : i ≡ i + 0 = omega arith in ap d z
retimed_from d i (suc l) (x ∷ xs) h = let z : i + 1 + l ≡ i + suc l = omega arith in retimed_from d (i + 1) l xs (omega arith) ∙ ap d z

retimed_running : (d : ℕ → ℕ) (i l : ℕ) (xs : List LunState) (g : List Want) (n r : ℕ) → slice_get (retimed d i xs) l ≡ Some (Running g n r) → (r' : ℕ) × (slice_get xs l ≡ Some (Running g n r'))
retimed_running d i l [] g n r h = cc
retimed_running d i zero (Free a ∷ xs) g n r h = cc
retimed_running d i zero (Running g' n' r' ∷ xs) g n r h = (r', cc)
retimed_running d i (suc l) (x ∷ xs) g n r h = retimed_running d (i + 1) l xs g n r h

abbrev retiming : Problem → (ℕ → ℕ) → Problem
retiming p d = record { timing = p.timing; rules = p.rules; bus_free = 0; luns = retimed d 0 p.luns; wants = p.wants }

retiming_same : (p : Problem) (d : ℕ → ℕ) → SameLeft p (retiming p d)
retiming_same p d = record { timing = refl; rules = refl; luns = retimed_alike d 0 p.luns; wants = refl }

retiming_problem : (p : Problem) (d : ℕ → ℕ) → IsProblem p → IsProblem (retiming p d)
retiming_problem p d ip = record {
  wants = ip.wants;
  in_range = subst (λ n. All (λ w. w.lun < n) p.wants) (sym (retimed_length d 0 p.luns)) ip.in_range;
  ids = ip.ids;
  running = λ l g n r at. let k = retimed_running d 0 l p.luns g n r at in ip.running l g n k.0 k.1;
}

-- what has something left is there
some_want : (l : ℕ) (ws : List Want) → has_left_at (on_lun l ws) None ≡ true → (w : Want) × Has ws w × (w.lun ≡ l)
some_want l [] h = cc
some_want l (w ∷ ws) h = elim (cases_Bool (w.lun == l)) [
  | inl k ↦ (w, inl refl, eqb-true w.lun l k)
  | inr k ↦ (let r = some_want l ws (rw k at h) in (r.0, inr r.1, r.2))
]

pub left_there : (p : Problem) (l : ℕ) → IsProblem p → has_left p l ≡ true → l < length p.luns
left_there p l ip h = go (slice_get p.luns l) refl
  where
    go : (o : Option LunState) → slice_get p.luns l ≡ o → l < length p.luns
    go None e = let w = some_want l p.wants (rw e at h) in let k = All-has (λ w. w.lun < length p.luns) p.wants w.0 ip.in_range w.1 in let q = w.2 in omega arith
    go (Some x) e = within_get p.luns l x e

retiming_go : (p : Problem) (d : ℕ → ℕ) (l : ℕ) → IsProblem p → has_left p l ≡ true → may_go (retiming p d) l ≡ d l
retiming_go p d l ip h =
    let f = retimed_from d 0 l p.luns (left_there p l ip h) in
    let z : 0 + l ≡ l = omega arith in
    let k : d (0 + l) ≡ d l = ap d z in
    omega arith

-- the greatest of some numbers
greatest_has : (n : ℕ) (f : ℕ → ℕ) (i : ℕ) → i < n → f i ≤ greatest n f
greatest_has zero f i h = absurd (omega arith)
greatest_has (suc n) f i h = elim (same_place i n) [
  | inl e ↦ rw e (omega arith)
  | inr d ↦ (let k = greatest_has n f i (omega arith) in omega arith)
]

pub greatest_below : (n : ℕ) (f : ℕ → ℕ) (v : ℕ) → ((i : ℕ) → f i ≤ v) → greatest n f ≤ v
greatest_below zero f v h = omega arith
greatest_below (suc n) f v h = let a = h n in let b = greatest_below n f v h in omega arith

asked_own : (p : Problem) (m : Move) (d : Demand) → asked p m d (move_lun m) ≡ max (d.bus - length_of p m) (max (of_own p m d) (greatest (length p.luns) (through_bus p m d)))
asked_own p m d = rw (eq-eqb (move_lun m) (move_lun m) refl) refl

asked_other : (p : Problem) (m : Move) (d : Demand) (l : ℕ) → l ≢ move_lun m → asked p m d l ≡ (if nat_le (d.lun l) (after p m).bus_free then 0 else d.lun l)
asked_other p m d l h = rw (ne_eqb l (move_lun m) h) refl

-- how long the move lasts and its LUN waits, on both
record Spans (p q : Problem) (m : Move) (long wait : ℕ) : Type 0 where
  lasts : length_of p m ≡ long
  waits : wait_of p m ≡ wait
  ends : (after q m).bus_free ≡ earliest q m + long
  ends_here : (after p m).bus_free ≡ earliest p m + long
  goes_on : free_from (slice_get (after q m).luns (move_lun m)) ≡ earliest q m + long + wait

spans : (p q : Problem) (m : Move) (b : BothMove p q m) → Spans p q m b.long b.wait
spans p q m b =
    let x = b.here (earliest p m) in
    let y = b.there (earliest q m) in
    let xb = x.bus in
    let yb = y.bus in
    record { lasts = omega arith; waits = omega arith; ends = yb; ends_here = xb; goes_on = y.own }

-- where each LUN goes on as late as is asked, what is left after a move meets the demand there
behind_meets : (p q : Problem) (m : Move) (d : Demand) (needs : ℕ → ℕ) → IsProblem p → IsProblem q → SameLeft p q → IsMove q m → ((l : ℕ) → has_left q l ≡ true → needs l ≤ may_go q l) → ((l : ℕ) → l < length p.luns → asked p m d l ≤ needs l) → Meets (after q m) d
behind_meets p q m d needs ip iq s mv goes asks =
    let b = both_move p q m ip iq s mv in
    let k = spans p q m b in
    let own = goes (move_lun m) (move_has q m mv) in
    let ask = asks (move_lun m) (left_there p (move_lun m) ip (same_has p q (move_lun m) s ∙ move_has q m mv)) in
    let is = asked_own p m d in
    record { bus = omega arith; luns = met b k }
  where
    met : (b : BothMove p q m) → Spans p q m b.long b.wait → (l : ℕ) → has_left (after q m) l ≡ true → d.lun l ≤ may_go (after q m) l
    met b k l h =
        let own = goes (move_lun m) (move_has q m mv) in
        let ask = asks (move_lun m) (left_there p (move_lun m) ip (same_has p q (move_lun m) s ∙ move_has q m mv)) in
        let is = asked_own p m d in
        elim (same_place l (move_lun m)) [
          | inl e ↦ (
              let h' : has_left (after p m) (move_lun m) ≡ true = same_has (after p m) (after q m) (move_lun m) (b.left (earliest p m) (earliest q m)) ∙ subst (λ i. has_left (after q m) i ≡ true) e h in
              let o : of_own p m d ≡ d.lun (move_lun m) - (length_of p m + wait_of p m) = rw h' refl in
              rw e (omega arith))
          | inr n ↦ (
              let left = sym (other_has q m (earliest q m) l iq mv n) ∙ h in
              let there = left_there p l ip (same_has p q l s ∙ left) in
              elim (cases_Bool (nat_le (d.lun l) (after p m).bus_free)) [
                | inl t ↦ (
                    let g = greatest_has (length p.luns) (through_bus p m d) l there in
                    let v : through_bus p m d l ≡ d.lun l - length_of p m = rw (ne_eqb l (move_lun m) n, t) refl in
                    omega arith)
                | inr t ↦ (
                    let v : asked p m d l ≡ d.lun l = rw (ne_eqb l (move_lun m) n, t) refl in
                    let a = asks l there in
                    let c = goes l left in
                    let y = ap free_from ((b.there (earliest q m)).others l n) in
                    omega arith)
              ])
        ]

pub asked_is_met : AskedLaw
asked_is_met p m d l ip mv meets h =
    let b = both_move p p m ip ip (same_self p) mv in
    let k = spans p p m b in
    elim (same_place l (move_lun m)) [
      | inl e ↦ (
          let own = own_met b k in
          let all = greatest_below (length p.luns) (through_bus p m d) (earliest p m) (through b k) in
          let is = asked_own p m d in
          rw e (omega arith))
      | inr n ↦ (
          let is = asked_other p m d l n in
          elim (cases_Bool (nat_le (d.lun l) (after p m).bus_free)) [
            | inl t ↦ (let v : asked p m d l ≡ 0 = rw (ne_eqb l (move_lun m) n, t) refl in omega arith)
            | inr t ↦ (
                let v : asked p m d l ≡ d.lun l = rw (ne_eqb l (move_lun m) n, t) refl in
                let le = meets.luns l (other_has p m (earliest p m) l ip mv n ∙ h) in
                let y = ap free_from ((b.there (earliest p m)).others l n) in
                let more = below (d.lun l) (after p m).bus_free t in
                omega arith)
          ])
    ]
  where
    own_met : (b : BothMove p p m) → Spans p p m b.long b.wait → of_own p m d ≤ earliest p m
    own_met b k =
        elim (cases_Bool (has_left (after p m) (move_lun m))) [
          | inl t ↦ (let le = meets.luns (move_lun m) t in rw t (omega arith))
          | inr t ↦ rw t (omega arith)
        ]

    through : (b : BothMove p p m) → Spans p p m b.long b.wait → (i : ℕ) → through_bus p m d i ≤ earliest p m
    through b k i =
        elim (same_place i (move_lun m)) [
          | inl e ↦ rw (eq-eqb i (move_lun m) e) (omega arith)
          | inr n ↦ elim (cases_Bool (nat_le (d.lun i) (after p m).bus_free)) [
            | inl t ↦ (let le = leb-true (d.lun i) (after p m).bus_free t in rw (ne_eqb i (move_lun m) n, t) (omega arith))
            | inr t ↦ rw (ne_eqb i (move_lun m) n, t) (omega arith)
          ]
        ]

-- a phase at its earliest is as good as later
at_earliest : (p : Problem) (m : Move) (t : ℕ) (steps : List Step) (f : ℕ) → IsProblem p → IsMove p m → earliest p m ≤ t → Run (placed p m t) steps f → (f' : ℕ) × (f' ≤ f) × Run (after p m) steps f'
at_earliest p m t [] f ip mv le (done, end) =
    let b = both_move p p m ip ip (same_self p) mv in
    let x = (b.here (earliest p m)).bus in
    let y = (b.here t).bus in
    ((after p m).bus_free, omega arith, (done_alike (after p m) (placed p m t) (b.left (earliest p m) t) done, refl))
at_earliest p m t (s ∷ steps) f ip mv le run =
    let b = both_move p p m ip ip (same_self p) mv in
    let sooner = sooner_behind p p m (earliest p m) t ip b (λ l h. omega arith) mv le le in
    (f, omega arith, run_sooner steps (after p m) (placed p m t) s f (kept p m (earliest p m) ip mv) (kept p m t ip mv) (b.left (earliest p m) t) sooner run)

-- where there is a move something is left, also to what has the same left
some_left : (p q : Problem) → IsProblem p → IsProblem q → SameLeft p q → (ms : List Move) → 1 ≤ length ms → All (IsMove p) ms → IsDone q → ⊥
some_left p q ip iq s [] n all done = omega arith
some_left p q ip iq s (m ∷ ms) n all done = not_done q m done (both_move q p m iq ip (back_same p q s) all.0).is_move

module _ (p : Problem) (e : ℕ) (moves : List Move) (needs : ℕ → ℕ) (ip : IsProblem p) (are : AreMoves p moves) (shows : (m : Move) → Has moves m → Shows e p needs m ⊎ GivesWay e p moves needs m) where
  same_needs : SameLeft p (retiming p needs)
  same_needs = retiming_same p needs

  goes : (l : ℕ) → has_left (retiming p needs) l ≡ true → may_go (retiming p needs) l ≡ needs l
  goes l h = retiming_go p needs l ip (same_has p (retiming p needs) l same_needs ∙ h)

  child_bounded : (m : Move) → IsMove (retiming p needs) m → Shows e p needs m → Bounded (after (retiming p needs) m) e
  child_bounded m mv (d, asks, below) =
      let b = both_move p (retiming p needs) m ip (retiming_problem p needs ip) same_needs mv in
      let iq = retiming_problem p needs ip in
      asks.holds (after (retiming p needs) m) (b.left (earliest p m) (earliest (retiming p needs) m)) (kept (retiming p needs) m (earliest (retiming p needs) m) iq mv) (behind_meets p (retiming p needs) m d needs ip iq same_needs mv (λ l h. let k = goes l h in omega arith) below)

  moves_here : (m : Move) → IsMove (retiming p needs) m → Has moves m
  moves_here m mv = are.each m (both_move p (retiming p needs) m ip (retiming_problem p needs ip) same_needs mv).is_move

  fitting : (m : Move) (g : GivesWay e p moves needs m) → IsMove (retiming p needs) m → (n : Move) → IsMove (retiming p needs) n → move_lun n ≡ g.lun → (after (retiming p needs) n).bus_free ≤ earliest (retiming p needs) m
  fitting m g mv n nv at =
      let q = retiming p needs in
      let b = both_move p q n ip (retiming_problem p needs ip) same_needs nv in
      let k = spans p q n b in
      let fit = g.fits n (moves_here n nv) at in
      let a = goes (move_lun n) (move_has q n nv) in
      let c = goes (move_lun m) (move_has q m mv) in
      let same : needs (move_lun n) ≡ needs g.lun = ap needs at in
      omega arith

  needs_bounded : Bounded (retiming p needs) e → 1 ≤ length moves → Holds e p (of_luns needs)
  needs_bounded bounded some q s iq meets steps f run =
      let z = retiming p needs in
      let zq : SameLeft z q = record { timing = s.timing; rules = s.rules; luns = sym (same_needs.luns) ∙ s.luns; wants = s.wants } in
      bounded steps f (sooner_runs z q steps f (retiming_problem p needs ip) iq zq (some_left p q ip iq s moves some are.moves_only) (λ l h. let k = goes l (same_has z q l zq ∙ h) in let le = meets.luns l h in omega arith) run)

  step_bounded : (s : Step) (steps : List Step) (f : ℕ) → Run (retiming p needs) (s ∷ steps) f → e ≤ f
  step_bounded s steps f (mv, on_time, run) =
      let q = retiming p needs in
      let iq = retiming_problem p needs ip in
      elim (shows s.move (moves_here s.move mv)) [
        | inl c ↦ (let r = at_earliest q s.move s.start steps f iq mv on_time run in let le = child_bounded s.move mv c steps r.0 r.2 in let le' = r.1 in omega arith)
        | inr g ↦ (
            let there = (both_move q p g.move iq ip (back_same p q same_needs) (All-has (IsMove p) moves g.move are.moves_only g.has_move)).is_move in
            let r = yielding q s.move g.move s.start g.lun f steps iq mv on_time run g.other there g.of_lun (fitting s.move g mv) in
            let le = child_bounded r.move r.is_move (g.shows r.move (moves_here r.move r.is_move) r.of_lun) r.steps r.finish r.run in
            omega arith)
      ]

pub open_asks : OpenLaw
open_asks p e moves needs ip are some shows = needs_bounded p e moves needs ip are shows bounded some
  where
    bounded : Bounded (retiming p needs) e
    bounded [] f (done, end) = absurd (some_left p (retiming p needs) ip (retiming_problem p needs ip) (retiming_same p needs) moves some are.moves_only done)
    bounded (s ∷ steps) f run = step_bounded p e moves needs ip are shows s steps f run
