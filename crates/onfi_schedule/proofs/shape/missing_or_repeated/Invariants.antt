use Rattle.std.proofs.Common.{◌↔◌, drop}
use Rattle.std.specs.List.{AllByRecursion as All}
use Rattle.onfi_schedule.specs.Conditions.{HoldsOnce}
use Rattle.onfi_schedule.proofs.shape.missing_or_repeated.Given as goal

abbrev pub invariant-loop-want : goal.invariant-loop-want
invariant-loop-want l = All (HoldsOnce l.groups) (drop l.want-index l.wants) ↔ All (HoldsOnce l.groups) l.wants
