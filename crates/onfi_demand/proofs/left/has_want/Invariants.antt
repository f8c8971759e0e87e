use Rattle.std.proofs.Common.{◌≡◌, [], take}
use Rattle.onfi_problem.specs.Position.{waiting_of}
use Rattle.onfi_bound.specs.Bounds.{on_lun}
use Rattle.onfi_demand.proofs.left.has_want.Given as goal

abbrev pub invariant-loop-i : goal.invariant-loop-i
invariant-loop-i l = on_lun l.lun (waiting_of l.marks (take l.i l.all)) ≡ []
