use Rattle.std.proofs.Common.{◌≡◌, ◌*◌, ◌^◌, ◌≤◌, take}
use Rattle.onfi_group.specs.Words.{total}
use Rattle.onfi_problem.specs.Left.{want_post}
use Rattle.onfi_problem.specs.Position.{waiting_of}
use Rattle.onfi_demand.proofs.lead.posts_of_wants.Given as goal

abbrev pub invariant-loop-i : goal.invariant-loop-i
invariant-loop-i l = record {
  sum : l.sum ≡ total (want_post l.timing) (waiting_of l.marks (take l.i l.all));
  small : l.sum ≤ l.i * 2 ^ 50;
}
