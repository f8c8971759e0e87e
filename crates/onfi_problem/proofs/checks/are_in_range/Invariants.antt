use Rattle.std.proofs.Common.{◌↔◌, ◌<◌, drop}
use Rattle.std.specs.List.{AllByRecursion as All}
use Rattle.onfi_problem.proofs.checks.are_in_range.Given as goal

abbrev pub invariant-loop-want : goal.invariant-loop-want
invariant-loop-want l = All (λ w. w.lun < l.luns) (drop l.want-index l.wants) ↔ All (λ w. w.lun < l.luns) l.wants
