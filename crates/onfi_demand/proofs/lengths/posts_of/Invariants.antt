use Rattle.std.proofs.Common.{◌≡◌, ◌-◌, ◌^◌, ◌≤◌, ◌<◌, ℕ, length, get_or}
use Rattle.onfi_demand.specs.Remaining.{post_of}
use Rattle.onfi_demand.proofs.lengths.posts_of.Given as goal

abbrev pub invariant-loop-at : goal.invariant-loop-at
invariant-loop-at l = record {
  long : length l.posts ≡ 4;
  left : (i : ℕ) → l.over ≤ i → i < l.at → get_or l.posts i 0 ≡ post_of l.timing l.operation (get_or l.sectors (i - l.over) 0);
  before : (i : ℕ) → i < l.over → get_or l.posts i 0 ≡ 0;
  rest : (i : ℕ) → l.at ≤ i → get_or l.posts i 0 ≡ 0;
  short : (i : ℕ) → get_or l.posts i 0 < 2 ^ 50;
}
