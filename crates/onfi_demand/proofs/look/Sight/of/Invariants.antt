use Rattle.std.proofs.Common.{◌≡◌, ◌-◌, ◌*◌, ◌^◌, ◌≤◌, ◌<◌, ℕ, length, get_or}
use Rattle.onfi_problem.specs.Moves.{may_go}
use Rattle.onfi_demand.specs.Window.{phases_left_on, within, needed, sum_of}
use Rattle.onfi_demand.proofs.look.Sight.of.Given as goal

abbrev pub invariant-loop-lun : goal.invariant-loop-lun
invariant-loop-lun l = record {
  long : length l.firsts ≡ 8;
  value : l.length ≡ sum_of l.lun (λ k. within (may_go l.problem.problem k) l.window.start l.window.tail (phases_left_on l.problem.problem k));
  small : l.length ≤ l.lun * 2 ^ 56;
  needs : (k n : ℕ) → k < l.lun → n < 2 ^ 64 → n - get_or l.firsts k 0 ≡ needed (may_go l.problem.problem k) l.window.start l.window.tail n (phases_left_on l.problem.problem k);
  none : (k : ℕ) → l.lun ≤ k → k < 8 → get_or l.firsts k 0 ≡ 2 ^ 64 - 1;
}
