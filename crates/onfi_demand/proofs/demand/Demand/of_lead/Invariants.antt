use Rattle.std.proofs.Common.{◌≡◌, ◌<◌, ◌≤◌, ℕ, length, get_or, true, false}
use Rattle.std.specs.Prelude.{slice_get}
use Rattle.onfi_bound.specs.Bounds.{on_lun}
use Rattle.onfi_demand.specs.Left.{has_left}
use Rattle.onfi_demand.specs.Demand.{lead_at}
use Rattle.onfi_demand.proofs.demand.Demand.of_lead.Given as goal

abbrev pub invariant-loop-lun : goal.invariant-loop-lun
invariant-loop-lun l = record {
  long : length l.luns ≡ 8;
  value : (k : ℕ) → k < l.lun → get_or l.luns k 0 ≡ lead_at l.problem.problem l.e (on_lun k l.problem.problem.wants) (slice_get l.problem.problem.luns k);
  rest : (k : ℕ) → l.lun ≤ k → get_or l.luns k 0 ≡ 0;
  some : l.some ≡ true → (k : ℕ) × (k < l.lun) × (has_left l.problem.problem k ≡ true);
  none : l.some ≡ false → (k : ℕ) → k < l.lun → has_left l.problem.problem k ≡ false;
}
