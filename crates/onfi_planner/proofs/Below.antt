-- What is found below a step, said of the node that the step is taken from.
use Rattle.std.proofs.Common.{◌≡◌, ℕ, ◌∷◌, [], ◌++◌, List, sym, ap, ◌∙◌, subst}
use Rattle.onfi_problem.specs.declared.moves.Undo.{Undo}
use Rattle.onfi_problem.specs.Moves.{earliest}
use Rattle.onfi_problem.specs.Position.{Position, move_of, moved, restored}
use Rattle.onfi_planner.specs.declared.search.Begun.{Begun}
use Rattle.onfi_check.specs.First.{IsFirstRun, IsFirstChoice}
use Rattle.onfi_planner.specs.Planning.{run_of, taken}
use Rattle.onfi_planner.proofs.Stacking.{run_split}

-- a position that is handed back is the one before the step
pub handed_back : (x below back now : Position) (undo : Undo) → back ≡ below → restored below undo ≡ x → now ≡ restored back undo → now ≡ x
handed_back x below back now undo same was e = e ∙ (ap (λ (z : Position). restored z undo) same ∙ was)

one_begun : (x : Position) (b : Begun) (steps items : List Begun) → items ≡ steps ++ b ∷ [] → run_of x.groups items ≡ taken x.groups b ∷ run_of x.groups steps
one_begun x b steps items e = ap (run_of x.groups) e ∙ run_split x.groups steps b []

-- the first run from after a step, and the step, are the first run
pub first_more : (x : Position) (b : Begun) (steps items : List Begun) (f : ℕ) → IsFirstChoice x.problem (move_of x.groups b.step) → b.start ≡ earliest x.problem (move_of x.groups b.step) → items ≡ steps ++ b ∷ [] → IsFirstRun (moved x b.step).problem (run_of x.groups steps) f → IsFirstRun x.problem (run_of x.groups items) f
first_more x b steps items f choice start e run = subst (λ z. IsFirstRun x.problem z f) (sym (one_begun x b steps items e)) (choice, start, run)
