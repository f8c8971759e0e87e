-- Ranges of numbers.
use Rattle.std.specs.Prelude.{ℕ, ◌≤◌}

abbrev pub IsBetween : ℕ → ℕ → ℕ → Type 0
IsBetween low high n = (low ≤ n) × (n ≤ high)
