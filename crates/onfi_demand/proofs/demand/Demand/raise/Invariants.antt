use Rattle.std.proofs.Common.{◌≡◌, ◌<◌, ◌≤◌, ℕ, length, get_or}
use Rattle.std.specs.Prelude.{max}
use Rattle.onfi_demand.proofs.Stepping.{behind}
use Rattle.onfi_demand.proofs.demand.Demand.raise.Given as goal

abbrev pub invariant-loop-lun : goal.invariant-loop-lun
invariant-loop-lun l = record {
  long : length l.asked ≡ 8;
  value : (k : ℕ) → k < l.lun → get_or l.asked k 0 ≡ max (get_or l.fn.asked k 0) (behind l.step.end (get_or l.self.luns k 0));
  rest : (k : ℕ) → l.lun ≤ k → get_or l.asked k 0 ≡ get_or l.fn.asked k 0;
}
