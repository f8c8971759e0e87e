-- An accepted tree bounds each run.
use Rattle.std.proofs.Common.{ℕ, ◌+◌, ◌≤◌, ◌⊎◌, inl, inr, List, [], ◌∷◌, length, refl, sym, ap, subst, arith}
use Rattle.std.specs.Prelude.{slice_set}
use Rattle.std.specs.List.{AllByRecursion as All}
use Rattle.onfi_problem.specs.Moves.{Move, IsMove, IsDone, earliest, move_lun, placed, after, lun_after, AreMoves}
use Rattle.onfi_group.specs.Words.{Has}
use Rattle.onfi_problem.specs.Problem.{Problem, IsProblem}
use Rattle.onfi_group.specs.Group.{group_spans}
use Rattle.onfi_timing.specs.Phases.{phase_length}
use Rattle.onfi_schedule.specs.Runs.{Step, Run}
use Rattle.onfi_check.specs.Tree.{Closing, Tree, Forest, NoneYields, MayYield, Closes, Accepts, AcceptsEach, AtEnd, ByBus, ByLead, ByTrail, ByDie, Closed, Opened, NoMore, Child, Yields}
use Rattle.onfi_schedule.specs.Schedule.{Schedule, Legal, Optimal, finish}
use Rattle.onfi_schedule.proofs.Least.{legal_run}
use Rattle.onfi_problem.proofs.Perm.{All-has}
use Rattle.onfi_problem.proofs.Kept.{kept}
use Rattle.onfi_schedule.proofs.Sooner.{sooner_run, set_sooner, luns_self, after_sooner}
use Rattle.onfi_schedule.proofs.Exchange.{doing, left_by, yielding, not_done}
use Rattle.onfi_bound.proofs.BusBound.{bus_bound}
use Rattle.onfi_bound.proofs.LeadBound.{lead_bound}
use Rattle.onfi_bound.proofs.TrailBound.{trail_bound}
use Rattle.onfi_bound.proofs.DieBound.{die_bound}

-- no run ends before e
abbrev pub Bounded : Problem → ℕ → Type 0
Bounded p e = (steps : List Step) (f : ℕ) → Run p steps f → e ≤ f

-- a first move at its earliest is as good as later
pub at_earliest : (p : Problem) (m : Move) (t : ℕ) (steps : List Step) (f : ℕ) → IsMove p m → earliest p m ≤ t → Run (placed p m t) steps f → (f' : ℕ) × (f' ≤ f) × Run (after p m) steps f'
at_earliest p m t steps f im le run =
    let d = doing p m im in
    let e = earliest p m in
    let long = t + phase_length (group_spans p.timing d.group) (length d.group) d.number in
    let short = e + phase_length (group_spans p.timing d.group) (length d.group) d.number in
    let run' = subst (λ q. Run q steps f) (d.is p refl t) run in
    let r = sooner_run p.timing p.rules steps (left_by m p.wants) short long (slice_set p.luns (move_lun m) (lun_after p.timing d.group d.number short)) (slice_set p.luns (move_lun m) (lun_after p.timing d.group d.number long)) f (omega arith)
    (set_sooner p.luns p.luns (move_lun m) _ _ (luns_self p.luns) (after_sooner p.timing d.group d.number short long (omega arith))) run' in
    (r.0, r.1, subst (λ q. Run q steps r.0) (sym (d.is p refl e)) r.2)

-- what the children that are trees say of the moves
abbrev Good : Forest → Problem → ℕ → List Move → Type 0
Good NoMore p e moves = Unit {0}
Good (Child tree forest) p e [] = Unit {0}
Good (Child tree forest) p e (m ∷ moves) = Bounded (after p m) e × Good forest p e moves
Good (Yields lun forest) p e [] = Unit {0}
Good (Yields lun forest) p e (m ∷ moves) = Good forest p e moves

no_run : (p : Problem) (steps : List Step) (f : ℕ) → IsDone p → Run p steps f → p.bus_free ≤ f
no_run p [] f d (done, e) = omega arith
no_run p (s ∷ steps) f d (mv, on_time, run) = absurd (not_done p s.move d mv)

find_child : (forest : Forest) (p : Problem) (e : ℕ) (moves : List Move) (all : Forest) (all_moves : List Move) (m : Move) → AcceptsEach forest p e moves all all_moves → Good forest p e moves → Has moves m → Bounded (after p m) e ⊎ ((lun : ℕ) × MayYield p all_moves all m lun)
find_child NoMore p e moves all all_moves m a g h = absurd (subst (λ ms. Has ms m) a h)
find_child (Child tree forest) p e [] all all_moves m a g h = absurd h
find_child (Child tree forest) p e (n ∷ moves) all all_moves m a g (inl q) = inl (subst (λ z. Bounded (after p z) e) q g.0)
find_child (Child tree forest) p e (n ∷ moves) all all_moves m a g (inr h) = find_child forest p e moves all all_moves m a.1 g.1 h
find_child (Yields lun forest) p e [] all all_moves m a g h = absurd h
find_child (Yields lun forest) p e (n ∷ moves) all all_moves m a g (inl q) = inr (lun, subst (λ z. MayYield p all_moves all z lun) q a.0)
find_child (Yields lun forest) p e (n ∷ moves) all all_moves m a g (inr h) = find_child forest p e moves all all_moves m a.1 g h

find_tree : (forest : Forest) (p : Problem) (e : ℕ) (moves : List Move) (all : Forest) (all_moves : List Move) (m : Move) → AcceptsEach forest p e moves all all_moves → Good forest p e moves → NoneYields (move_lun m) moves forest → Has moves m → Bounded (after p m) e
find_tree NoMore p e moves all all_moves m a g y h = absurd (subst (λ ms. Has ms m) a h)
find_tree (Child tree forest) p e [] all all_moves m a g y h = absurd h
find_tree (Child tree forest) p e (n ∷ moves) all all_moves m a g y (inl q) = subst (λ z. Bounded (after p z) e) q g.0
find_tree (Child tree forest) p e (n ∷ moves) all all_moves m a g y (inr h) = find_tree forest p e moves all all_moves m a.1 g.1 y h
find_tree (Yields lun forest) p e [] all all_moves m a g y h = absurd h
find_tree (Yields lun forest) p e (n ∷ moves) all all_moves m a g y (inl q) = absurd (y.0 (ap move_lun q))
find_tree (Yields lun forest) p e (n ∷ moves) all all_moves m a g y (inr h) = find_tree forest p e moves all all_moves m a.1 g y.1 h

some_move : (p : Problem) (moves : List Move) → 1 ≤ length moves → All (IsMove p) moves → IsDone p → ⊥
some_move p [] s h d = omega arith
some_move p (m ∷ moves) s h d = not_done p m d h.0

opened : (forest : Forest) (p : Problem) (e : ℕ) (moves : List Move) → IsProblem p → AreMoves p moves → 1 ≤ length moves → AcceptsEach forest p e moves forest moves → Good forest p e moves → Bounded p e
opened forest p e moves ip are some each good [] f (done, q) = absurd (some_move p moves some are.moves_only done)
opened forest p e moves ip are some each good (s ∷ steps) f (mv, on_time, run) =
    elim (find_child forest p e moves forest moves s.move each good (are.each s.move mv)) [
      | inl b ↦ (let r = at_earliest p s.move s.start steps f mv on_time run in let le = b steps r.0 r.2 in let le' = r.1 in omega arith)
      | inr (lun, y) ↦ (
          let r = yielding p s.move y.move s.start lun f steps ip mv on_time run y.other (All-has (IsMove p) moves y.move are.moves_only y.has_move) y.of_lun (λ n i q. All-has _ moves n y.fits (are.each n i) q) in
          let none = subst (λ l. NoneYields l moves forest) (sym r.of_lun) y.none_back in
          let b = find_tree forest p e moves forest moves r.move each good none (are.each r.move r.is_move) in
          let le = b r.steps r.finish r.run in let le' = r.no_later in omega arith)
    ]

closed : (token : Closing) (p : Problem) (e : ℕ) → IsProblem p → Closes p e token → Bounded p e
closed AtEnd p e ip c steps f run = let b = no_run p steps f c.0 run in let le = c.1 in omega arith
closed ByBus p e ip c steps f run = let b = bus_bound steps p f ip run in omega arith
closed ByLead p e ip c steps f run = let b = lead_bound steps p f ip run in omega arith
closed ByTrail p e ip c steps f run = let b = trail_bound steps p f c.0 ip c.1 run in let le = c.2 in omega arith
closed (ByDie lun) p e ip c steps f run = let b = die_bound steps p f lun ip c.0 run in let le = c.1 in omega arith

mutual
  pub sound : (tree : Tree) (p : Problem) (e : ℕ) → IsProblem p → Accepts tree p e → Bounded p e
  sound (Closed token) p e ip a = closed token p e ip a
  sound (Opened forest) p e ip (moves, are, some, each) = opened forest p e moves ip are some each (sound_each forest p e moves forest moves ip are.moves_only each)

  sound_each : (forest : Forest) (p : Problem) (e : ℕ) (moves : List Move) (all : Forest) (all_moves : List Move) → IsProblem p → All (IsMove p) moves → AcceptsEach forest p e moves all all_moves → Good forest p e moves
  sound_each NoMore p e moves all all_moves ip im a = tt
  sound_each (Child tree forest) p e [] all all_moves ip im a = tt
  sound_each (Child tree forest) p e (m ∷ moves) all all_moves ip im a = (sound tree (after p m) e (kept p m (earliest p m) ip im.0) a.0, sound_each forest p e moves all all_moves ip im.1 a.1)
  sound_each (Yields lun forest) p e [] all all_moves ip im a = tt
  sound_each (Yields lun forest) p e (m ∷ moves) all all_moves ip im a = sound_each forest p e moves all all_moves ip im.1 a.1

-- a legal schedule whose finish has an accepted tree is optimal
pub certified : (p : Problem) (s : Schedule) (tree : Tree) → IsProblem p → Legal p s → Accepts tree p (finish p s) → Optimal p s
certified p s tree ip lg a = record { legal = lg; least = λ other lg'. let r = legal_run p other ip lg' in sound tree p (finish p s) ip a r.0 (finish p other) r.1 }
