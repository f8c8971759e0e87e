use Rattle.std.proofs.Common.{◌≡◌, ◌≤◌, length, map, take}
use Rattle.onfi_audit.specs.Audit.{stage_of}
use Rattle.onfi_audit.proofs.luns.Luns.of.Given as goal

abbrev pub invariant-loop-state : goal.invariant-loop-state
invariant-loop-state l = record {
  made : l.luns ≡ map stage_of (take l.state-index l.states);
  few : length l.luns ≤ l.state-index;
}
