use Rattle.std.proofs.Common.{◌≡◌, ◌≤◌, length, map, take}
use Rattle.onfi_problem.specs.Position.{state_of}
use Rattle.onfi_flight.proofs.luns.Luns.of.Given as goal

abbrev pub invariant-loop-lun : goal.invariant-loop-lun
invariant-loop-lun l = record {
  made : l.luns ≡ map (state_of l.problem.groups) (take l.lun-index l.lun-items);
  few : length l.luns ≤ l.lun-index;
}
