-- What lengths of phases and waits keep to.
use Rattle.std.specs.Prelude.{ℕ, ◌^◌, ◌<◌, ◌≤◌}

-- a command and a post take some time, and nothing takes 2^50 ns
pub record AreLengths (cmd gap array post : ℕ) : Type 0 where
  pub cmd_some : 1 ≤ cmd
  pub cmd_short : cmd < 2 ^ 50
  pub gap_short : gap < 2 ^ 50
  pub array_short : array < 2 ^ 50
  pub post_some : 1 ≤ post
  pub post_short : post < 2 ^ 50
