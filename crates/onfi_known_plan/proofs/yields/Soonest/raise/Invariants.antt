use Rattle.std.proofs.Common.{◌≡◌, ◌≤◌, ◌<◌, ◌^◌, ℕ, false, length, get_or}
use Rattle.onfi_known_plan.specs.Walks.{later_of}
use Rattle.onfi_known_plan.proofs.yields.Soonest.raise.Given as goal

abbrev pub invariant-loop-own : goal.invariant-loop-own
invariant-loop-own l = record {
  long : length l.asked ≡ 8;
  done : (k : ℕ) → k < l.own → get_or l.asked k 0 ≡ later_of (get_or l.yielded' k false) l.behind (get_or l.fn.asked k 0);
  rest : (k : ℕ) → l.own ≤ k → get_or l.asked k 0 ≡ get_or l.fn.asked k 0;
  small : (k : ℕ) → k < l.own → get_or l.asked k 0 < 2 ^ 64;
}
