use Rattle.std.proofs.Common.{◌≡◌, ◌≤◌, ◌<◌, ◌^◌, drop}
use Rattle.std.specs.Prelude.{max, slice_index}
use Rattle.onfi_known_check.specs.Proves.{with_yields}
use Rattle.onfi_known_check.proofs.standing.Standing.time_of.Given as goal

abbrev pub invariant-loop-y : goal.invariant-loop-y
invariant-loop-y l = record {
  value : max l.time (with_yields l.self.asked (drop l.y-index l.self.given.items) l.lun) ≡ with_yields l.self.asked l.self.given.items l.lun;
  small : l.time < 2 ^ 64;
  above : slice_index l.self.asked l.lun ≤ l.time;
}
