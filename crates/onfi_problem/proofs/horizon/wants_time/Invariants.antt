use Rattle.std.proofs.Common.{◌≡◌, ◌≤◌, ◌*◌, ◌^◌, take}
use Rattle.onfi_group.specs.Words.{total}
use Rattle.onfi_problem.specs.Left.{want_time}
use Rattle.onfi_problem.proofs.horizon.wants_time.Given as goal

abbrev pub invariant-loop-want : goal.invariant-loop-want
invariant-loop-want l = record {
  value : l.total ≡ total (want_time l.timing) (take l.want-index l.wants);
  small : l.total ≤ l.want-index * (3 * 2 ^ 50);
}
