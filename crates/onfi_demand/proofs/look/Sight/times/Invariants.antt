use Rattle.std.proofs.Common.{◌≡◌, ◌-◌, ◌<◌, ℕ, length, get_or}
use Rattle.onfi_demand.proofs.look.Sight.times.Given as goal

abbrev pub invariant-loop-lun : goal.invariant-loop-lun
invariant-loop-lun l = record {
  long : length l.times ≡ 8;
  value : (k : ℕ) → k < l.lun → get_or l.times k 0 ≡ l.time - get_or l.self.firsts k 0;
}
