-- The phases of a group of k members are numbered: k commands, then k posts, one of each member.
use Rattle.std.specs.Prelude.{ℕ, ◌==◌, ◌-◌, nat_lt, if◌then◌else◌, List, slice_index_or, drop}
use Rattle.std.specs.List.{sum}

-- what the members of a group share of their lengths, and the post of each, in ns
pub record Lengths : Type 0 where
  pub cmd : ℕ
  pub gap : ℕ
  pub array : ℕ
  pub posts : List ℕ

-- the length of phase n, in ns
abbrev pub phase_length : Lengths → ℕ → ℕ → ℕ
phase_length lengths k n = if nat_lt n k then lengths.cmd else slice_index_or lengths.posts (n - k) 0

-- the wait between phase n and the phase before it, in ns: gap between commands, array before the first post, none between posts
abbrev pub wait_before : Lengths → ℕ → ℕ → ℕ
wait_before lengths k n = if nat_lt n k then lengths.gap else (if n == k then lengths.array else 0)

-- the posts from phase n on, in ns: all of them, where that is a command
abbrev pub posts_from : Lengths → ℕ → ℕ → ℕ
posts_from lengths k n = sum (drop (n - k) lengths.posts)
