-- How many address bits name the plane.
use Rattle.std.specs.Prelude.{ℕ, ◌≤◌}

abbrev pub ArePlaneBits : ℕ → Type 0
ArePlaneBits bits = bits ≤ 2
