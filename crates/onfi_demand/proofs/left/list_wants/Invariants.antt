use Rattle.std.proofs.Common.{◌≡◌, ◌≤◌, length, take}
use Rattle.onfi_problem.specs.Position.{waiting_of}
use Rattle.onfi_bound.specs.Bounds.{on_lun}
use Rattle.onfi_demand.proofs.left.list_wants.Given as goal

abbrev pub invariant-loop-i : goal.invariant-loop-i
invariant-loop-i l = record {
  wants : l.wants.items ≡ on_lun l.lun (waiting_of l.marks (take l.i l.all));
  few : length l.wants.items ≤ l.i;
}
