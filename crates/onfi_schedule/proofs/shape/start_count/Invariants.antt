use Rattle.std.proofs.Common.{◌↔◌, drop}
use Rattle.std.specs.List.{AllByRecursion as All}
use Rattle.onfi_schedule.specs.Conditions.{StartsFit}
use Rattle.onfi_schedule.proofs.shape.start_count.Given as goal

abbrev pub invariant-loop-group : goal.invariant-loop-group
invariant-loop-group l = All StartsFit (drop l.group-index l.groups) ↔ All StartsFit l.groups
