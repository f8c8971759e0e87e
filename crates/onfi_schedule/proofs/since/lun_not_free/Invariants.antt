use Rattle.std.proofs.Common.{◌↔◌, drop}
use Rattle.std.specs.List.{AllByRecursion as All}
use Rattle.onfi_schedule.specs.Conditions.{FromSince, states_of}
use Rattle.onfi_schedule.proofs.since.lun_not_free.Given as goal

abbrev pub invariant-loop-group : goal.invariant-loop-group
invariant-loop-group l = All (FromSince (states_of l.table l.luns)) (drop l.group-index l.groups) ↔ All (FromSince (states_of l.table l.luns)) l.groups
