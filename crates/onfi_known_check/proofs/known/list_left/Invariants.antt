use Rattle.std.proofs.Common.{◌≡◌, ◌≤◌, length, map, take}
use Rattle.onfi_demand.specs.Left.{left_on}
use Rattle.onfi_demand.specs.Work.{left_of}
use Rattle.onfi_known_check.proofs.known.list_left.Given as goal

abbrev pub invariant-loop-lun : goal.invariant-loop-lun
invariant-loop-lun l = record {
  luns : map left_of l.luns.items ≡ map left_on (take l.lun l.problem.problem.luns);
  few : length l.luns.items ≤ l.lun;
}
