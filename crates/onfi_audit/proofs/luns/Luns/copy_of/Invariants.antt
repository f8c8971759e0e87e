use Rattle.std.proofs.Common.{◌≡◌, ◌≤◌, length, take}
use Rattle.onfi_audit.proofs.luns.Luns.copy_of.Given as goal

abbrev pub invariant-loop-stage : goal.invariant-loop-stage
invariant-loop-stage l = record {
  made : l.luns ≡ take l.stage-index l.stages;
  few : length l.luns ≤ l.stage-index;
}
