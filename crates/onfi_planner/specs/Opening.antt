-- Which moves of an open node yield.
use Rattle.std.specs.Prelude.{◌≡◌, ◌≢◌, ℕ, ◌≤◌, Bool, true, false, List, length, Option, Some, None, slice_index_or}
use Rattle.std.specs.List.{AllByRecursion as Each}
use Rattle.onfi_group.specs.Words.{Has}
use Rattle.onfi_problem.specs.Problem.{Problem}
use Rattle.onfi_problem.specs.Moves.{Move, move_lun, may_go, after}

-- the LUN that LUN j yields to
abbrev pub yield_at : List (Option ℕ) → ℕ → Option ℕ
yield_at yields j = slice_index_or yields j None

-- the moves of LUN j may yield to LUN l
pub record YieldsTo (p : Problem) (moves : List Move) (yields : List (Option ℕ)) (j l : ℕ) : Type 0 where
  pub other : l ≢ j
  pub move : Move
  pub has_move : Has moves move
  pub of_lun : move_lun move ≡ l
  pub fits : Each (λ n. move_lun n ≡ l → (after p n).bus_free ≤ may_go p j) moves
  pub stays : yield_at yields l ≡ None

abbrev pub AreYields : Problem → List Move → List (Option ℕ) → Type 0
AreYields p moves yields = (j l : ℕ) → yield_at yields j ≡ Some l → YieldsTo p moves yields j l

-- .. as far as a walk over the LUNs has come: those that were yielded to are marked
pub record YieldsSoFar (p : Problem) (moves : List Move) (yields : List (Option ℕ)) (awaited : List Bool) : Type 0 where
  pub long : length yields ≡ 8
  pub marks : length awaited ≡ 8
  pub are : AreYields p moves yields
  pub asked : (j l : ℕ) → yield_at yields j ≡ Some l → slice_index_or awaited l false ≡ true
