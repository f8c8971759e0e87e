-- What may go on sooner ends no later.
use Rattle.std.proofs.Common.{◌≡◌, ℕ, ◌≤◌, inl, inr, List, [], ◌∷◌, Option, Some, refl, sym, ap, ◌∙◌, arith}
use Rattle.std.specs.Prelude.{slice_get, true, ◌==◌}
use Rattle.std.proofs.lemmas.Bool.{eq-eqb}
use Rattle.onfi_request.specs.declared.want.Want.{Want}
use Rattle.onfi_group.specs.Words.{Has}
use Rattle.onfi_group.specs.Group.{lun_of, IsFirst, on_block}
use Rattle.onfi_problem.specs.declared.lun_state.LunState.{LunState}
use Rattle.onfi_problem.specs.declared.lun_state.LunState.TheVariants.{Free, Running}
use Rattle.onfi_problem.specs.Problem.{Problem, IsProblem}
use Rattle.onfi_problem.specs.Moves.{Move, Next, Start, IsMove, IsDone, earliest, placed, move_lun, may_go, free_from}
use Rattle.onfi_problem.proofs.Kept.{kept}
use Rattle.onfi_problem.proofs.Perm.{All-has}
use Rattle.onfi_problem.proofs.Places.{same_place}
use Rattle.onfi_problem.proofs.Wants.{Has-filter, first_has}
use Rattle.onfi_schedule.specs.Runs.{Step, Run}
use Rattle.onfi_bound.specs.Bounds.{on_lun}
use Rattle.onfi_bound.proofs.LeadBound.{some_member}
use Rattle.onfi_demand.specs.Left.{SameLeft, has_left_at, has_left}
use Rattle.onfi_demand.proofs.Alike.{running_alike, both_move, BothMove, other_has}

has_want : (ws : List Want) (w : Want) (o : Option LunState) → Has ws w → has_left_at ws o ≡ true
has_want [] w o h = absurd h
has_want (v ∷ ws) w Option.None h = refl
has_want (v ∷ ws) w (Some (Free a)) h = refl
has_want (v ∷ ws) w (Some (Running g n r)) h = refl

-- a LUN with a move has something left
pub move_has : (p : Problem) (m : Move) → IsMove p m → has_left p (move_lun m) ≡ true
move_has p (Next l) (g, n, r, at) = rw at refl
move_has p (Start ms) (since, at, st) =
    let m = some_member ms st.group.some in
    let wanted = first_has (on_block m.0) p.wants m.0 (All-has (IsFirst p.wants) ms m.0 st.first m.1) in
    let lun = All-has _ ms m.0 st.group.lun m.1 in
    has_want (on_lun (lun_of ms) p.wants) m.0 (slice_get p.luns (lun_of ms)) (Has-filter (λ w. w.lun == lun_of ms) p.wants m.0 wanted (eq-eqb m.0.lun (lun_of ms) lun))

pub done_alike : (p q : Problem) → SameLeft p q → IsDone q → IsDone p
done_alike p q s done = record {
  wants = s.wants ∙ done.wants;
  free = λ l g n r at. let k = running_alike q.luns p.luns l g n r (sym s.luns) at in done.free l k.group n k.ready k.here;
}

-- each LUN with something left may go on as soon
abbrev pub Sooner : Problem → Problem → Type 0
Sooner p q = (lun : ℕ) → has_left q lun ≡ true → may_go p lun ≤ may_go q lun

pub sooner_behind : (p q : Problem) (m : Move) (t u : ℕ) → IsProblem q → (b : BothMove p q m) → Sooner p q → IsMove q m → earliest q m ≤ u → t ≤ u → Sooner (placed p m t) (placed q m u)
sooner_behind p q m t u iq b s mv late le l has =
    let x = b.here t in
    let y = b.there u in
    elim (same_place l (move_lun m)) [
      | inl e ↦ rw e (omega arith)
      | inr d ↦ (
          let xo = ap free_from (x.others l d) in
          let yo = ap free_from (y.others l d) in
          let before = s l (sym (other_has q m u l iq mv d) ∙ has) in
          omega arith)
    ]

pub run_sooner : (steps : List Step) (p q : Problem) (s : Step) (f : ℕ) → IsProblem p → IsProblem q → SameLeft p q → Sooner p q → Run q (s ∷ steps) f → Run p (s ∷ steps) f
run_sooner [] p q s f ip iq same sooner (mv, on_time, (done, end)) =
    let b = both_move p q s.move ip iq same mv in
    let le = sooner (move_lun s.move) (move_has q s.move mv) in
    let bus : (placed p s.move s.start).bus_free ≡ (placed q s.move s.start).bus_free = let x = (b.here s.start).bus in let y = (b.there s.start).bus in omega arith in
    (b.is_move, omega arith, (done_alike (placed p s.move s.start) (placed q s.move s.start) (b.left s.start s.start) done, bus ∙ end))
run_sooner (s' ∷ steps) p q s f ip iq same sooner (mv, on_time, run) =
    let b = both_move p q s.move ip iq same mv in
    let le = sooner (move_lun s.move) (move_has q s.move mv) in
    let rest = run_sooner steps (placed p s.move s.start) (placed q s.move s.start) s' f (kept p s.move s.start ip b.is_move) (kept q s.move s.start iq mv) (b.left s.start s.start) (sooner_behind p q s.move s.start s.start iq b sooner mv on_time (omega arith)) run in
    (b.is_move, omega arith, rest)

pub sooner_runs : (p q : Problem) (steps : List Step) (f : ℕ) → IsProblem p → IsProblem q → SameLeft p q → (IsDone q → ⊥) → Sooner p q → Run q steps f → Run p steps f
sooner_runs p q [] f ip iq same left sooner (done, end) = absurd (left done)
sooner_runs p q (s ∷ steps) f ip iq same left sooner run = run_sooner steps p q s f ip iq same sooner run
