-- The first schedule is a run.
use Rattle.std.proofs.Common.{◌≡◌, ℕ, List, [], ◌∷◌, length, sym, arith}
use Rattle.onfi_problem.specs.Problem.{Problem, IsProblem}
use Rattle.onfi_problem.specs.Moves.{AreMoves}
use Rattle.onfi_problem.specs.declared.moves.Move.{Move as KeptMove}
use Rattle.onfi_problem.specs.Position.{Position, moves_of}
use Rattle.onfi_schedule.specs.Runs.{Step, Run}
use Rattle.onfi_planner.specs.declared.search.Begun.{Begun}
use Rattle.onfi_check.specs.First.{IsFirstRun}
use Rattle.onfi_planner.specs.Planning.{run_of}
use Rattle.onfi_planner.proofs.Halfway.{no_moves}

pub first_done : (x : Position) (items : List KeptMove) (steps : List Begun) (f : ℕ) → IsProblem x.problem → AreMoves x.problem (moves_of x.groups items) → length items ≡ 0 → steps ≡ [] → f ≡ x.problem.bus_free → IsFirstRun x.problem (run_of x.groups steps) f
first_done x [] steps f ip are z s e = rw s (no_moves x.problem ip are, sym e)
first_done x (m ∷ items) steps f ip are z s e = absurd (omega arith)

pub first_is_run : (steps : List Step) (p : Problem) (f : ℕ) → IsFirstRun p steps f → Run p steps f
first_is_run [] p f d = d
first_is_run (s ∷ steps) p f (choice, start, more) = (choice.is_move, omega arith, rw start (first_is_run steps _ f more))
