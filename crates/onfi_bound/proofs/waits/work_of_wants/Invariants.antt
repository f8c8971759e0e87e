use Rattle.std.proofs.Common.{◌≡◌, ◌*◌, ◌^◌, ◌≤◌, take}
use Rattle.onfi_bound.specs.Bounds.{on_lun, wants_work}
use Rattle.onfi_bound.proofs.waits.work_of_wants.Given as goal

abbrev pub invariant-loop-i : goal.invariant-loop-i
invariant-loop-i l = record {
  value : l.work ≡ wants_work l.timing l.rules (on_lun l.lun (take l.i l.wants));
  short : l.work ≤ l.i * 2 ^ 52;
}
