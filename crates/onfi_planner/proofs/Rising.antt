-- The groups of a run's schedule stand by rising first start.
use Rattle.std.proofs.Common.{ℕ, ◌≤◌, ◌<◌, List, [], ◌∷◌, arith}
use Rattle.std.specs.List.{AllByRecursion as All}
use Rattle.onfi_group.proofs.PhaseLengths.{phase_some}
use Rattle.onfi_problem.specs.Problem.{Problem, IsProblem}
use Rattle.onfi_problem.specs.Moves.{Move, Next, Start, IsMove, earliest, placed}
use Rattle.onfi_problem.proofs.Kept.{kept}
use Rattle.onfi_problem.proofs.Perm.{All-weaker}
use Rattle.onfi_schedule.specs.Schedule.{Placed}
use Rattle.onfi_schedule.specs.Runs.{Step, Run, schedule_of}
use Rattle.onfi_planner.specs.Planning.{first_start, AreRising}

-- a phase ends later than it starts
bus_after : (p : Problem) (m : Move) (t : ℕ) → IsProblem p → IsMove p m → t < (placed p m t).bus_free
bus_after p (Next l) t ip (g, n, r, at) = let a = phase_some p.timing g n (ip.running l g n r at).unfinished in rw at (omega arith)
bus_after p (Start g) t ip (since, at, st) = let some = st.group.some in let a = phase_some p.timing g 0 (omega arith) in omega arith

-- the groups start from then on, one after another
record Behind (t : ℕ) (groups : List Placed) : Type 0 where
  pub from : All (λ g. t ≤ first_start g) groups
  pub rising : AreRising groups

behind : (steps : List Step) (p : Problem) (f : ℕ) → IsProblem p → Run p steps f → Behind p.bus_free (schedule_of p steps).groups
behind [] p f ip run = record { from = tt; rising = tt }
behind (s ∷ steps) p f ip (im, late, run) = go s.move im late (behind steps (placed p s.move s.start) f (kept p s.move s.start ip im) run)
  where
    go : (m : Move) → IsMove p m → earliest p m ≤ s.start → Behind (placed p m s.start).bus_free (schedule_of (placed p m s.start) steps).groups → Behind p.bus_free (schedule_of p (record { move = m; start = s.start } ∷ steps)).groups
    go (Next l) im late b =
        let a = bus_after p (Next l) s.start ip im in
        record { from = All-weaker _ _ (λ g h. omega arith) (schedule_of (placed p (Next l) s.start) steps).groups b.from; rising = b.rising }
    go (Start g) im late b =
        let a = bus_after p (Start g) s.start ip im in
        let rest = (schedule_of (placed p (Start g) s.start) steps).groups in
        record {
          from = (omega arith, All-weaker _ _ (λ g h. omega arith) rest b.from);
          rising = (All-weaker _ _ (λ g h. omega arith) rest b.from, b.rising);
        }

pub run_rises : (steps : List Step) (p : Problem) (f : ℕ) → IsProblem p → Run p steps f → AreRising (schedule_of p steps).groups
run_rises steps p f ip run = (behind steps p f ip run).rising
