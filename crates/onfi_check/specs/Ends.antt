-- By when the moves of a LUN end that start at their earliest.
use Rattle.std.specs.Prelude.{◌≡◌, ◌≢◌, ℕ, ◌≤◌, ◌<◌, max, slice_index_or, List, Option, Some, None}
use Rattle.std.specs.List.{AllByRecursion as Each}
use Rattle.onfi_group.specs.Words.{Has}
use Rattle.onfi_problem.specs.Problem.{Problem}
use Rattle.onfi_problem.specs.Moves.{Move, move_lun, after}
use Rattle.onfi_check.specs.declared.yields.LastEnd.{LastEnd}

-- the last of these ends, where the LUN has a move
abbrev pub IsLastEnd : Problem → List Move → ℕ → Option ℕ → Type 0
IsLastEnd p moves lun None = Each (λ n. move_lun n ≢ lun) moves
IsLastEnd p moves lun (Some e) = ((m : Move) × Has moves m × (move_lun m ≡ lun) × ((after p m).bus_free ≡ e)) × Each (λ n. move_lun n ≡ lun → (after p n).bus_free ≤ e) moves

-- for each LUN the last end of its moves
abbrev pub AreLastEnds : Problem → List Move → List (Option ℕ) → Type 0
AreLastEnds p moves ends = (lun : ℕ) → lun < 8 → IsLastEnd p moves lun (slice_index_or ends lun None)

-- what was asked for last is a LUN's last end
abbrev pub IsAsked : Problem → List Move → Option LastEnd → Type 0
IsAsked p moves None = Unit {0}
IsAsked p moves (Some asked) = IsLastEnd p moves asked.lun asked.end

-- the later of two ends, where there are two
abbrev pub later_of : Option ℕ → ℕ → Option ℕ
later_of None end = Some end
later_of (Some other) end = Some (max other end)
