use Rattle.std.proofs.Common.{◌≡◌, ◌*◌, ◌^◌, ◌≤◌, take}
use Rattle.onfi_group.specs.Words.{total}
use Rattle.onfi_problem.specs.Left.{post_time}
use Rattle.onfi_demand.proofs.lead.posts_of_luns.Given as goal

abbrev pub invariant-loop-lun : goal.invariant-loop-lun
invariant-loop-lun l = record {
  sum : l.sum ≡ total (post_time l.problem.problem.timing) (take l.lun l.problem.problem.luns);
  small : l.sum ≤ l.lun * 2 ^ 53;
}
