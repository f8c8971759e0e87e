use Rattle.std.proofs.Common.{◌≡◌, ◌<◌, ◌^◌, ℕ, length, get_or}
use Rattle.onfi_known_check.specs.Proves.{with_yields}
use Rattle.onfi_known_check.proofs.standing.Standing.times.Given as goal

abbrev pub invariant-loop-lun : goal.invariant-loop-lun
invariant-loop-lun l = record {
  long : length l.times ≡ 8;
  fits : (k : ℕ) → k < l.lun → with_yields l.self.asked l.self.given.items k < 2 ^ 64;
  value : (k : ℕ) → k < l.lun → get_or l.times k 0 ≡ with_yields l.self.asked l.self.given.items k;
}
