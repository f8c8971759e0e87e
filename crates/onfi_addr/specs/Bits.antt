-- How many bits distinguish a number of things.
use Rattle.std.specs.Prelude.{ℕ, ◌≤◌, ◌^◌}

-- the least number with 2 ^ bits at least the count
pub record IsBitCount (count bits : ℕ) : Type 0 where
  pub enough : count ≤ 2 ^ bits
  pub least : (fewer : ℕ) → count ≤ 2 ^ fewer → bits ≤ fewer
