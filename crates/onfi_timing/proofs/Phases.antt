-- Lengths of phases, one phase on.
use Rattle.std.proofs.Common.{◌≡◌, ℕ, ◌+◌, ◌-◌, ◌≤◌, ◌<◌, length, drop, get_or, refl, ap, arith}
use Rattle.std.specs.List.{sum}
use Rattle.std.proofs.lemmas.Bool.{lt-ltb, le-ltb}
use Rattle.std.proofs.lemmas.List.Sums.{sum_by-drop_more}
use Rattle.std.proofs.Math.ListN.{drop_of_length-le}
use Rattle.onfi_timing.specs.Phases.{Lengths, phase_length, posts_from}

pub command_length : (lengths : Lengths) (k n : ℕ) → n < k → phase_length lengths k n ≡ lengths.cmd
command_length lengths k n h = rw (lt-ltb n k h)

pub post_length : (lengths : Lengths) (k n : ℕ) → k ≤ n → phase_length lengths k n ≡ get_or lengths.posts (n - k) 0
post_length lengths k n h = rw (le-ltb n k h)

-- a command takes no post away
pub posts_past_command : (lengths : Lengths) (k n : ℕ) → n < k → posts_from lengths k n ≡ posts_from lengths k (n + 1)
posts_past_command lengths k n h = let e : n - k ≡ n + 1 - k = omega arith in ap (λ i. sum (drop i lengths.posts)) e

-- a post takes itself away
pub posts_past_post : (lengths : Lengths) (k n : ℕ) → k ≤ n → n - k < length lengths.posts → posts_from lengths k n ≡ phase_length lengths k n + posts_from lengths k (n + 1)
posts_past_post lengths k n h i =
    let e : n + 1 - k ≡ n - k + 1 = omega arith in
    rw (post_length lengths k n h, e) (sum_by-drop_more (λ x. x) lengths.posts (n - k) 0 i)

-- after the last post nothing is left
pub posts_past_all : (lengths : Lengths) (k n : ℕ) → length lengths.posts ≤ n - k → posts_from lengths k n ≡ 0
posts_past_all lengths k n h = rw (drop_of_length-le lengths.posts h) refl

-- all posts are left where the next phase is a command, or the first post
pub posts_of_all : (lengths : Lengths) (k n : ℕ) → n ≤ k → posts_from lengths k n ≡ sum lengths.posts
posts_of_all lengths k n h = let e : n - k ≡ 0 = omega arith in ap (λ i. sum (drop i lengths.posts)) e
