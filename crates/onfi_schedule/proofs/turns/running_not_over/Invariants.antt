use Rattle.std.proofs.Common.{◌↔◌, drop}
use Rattle.std.specs.List.{AllByRecursion as All}
use Rattle.onfi_schedule.specs.Conditions.{LeftFirst, states_of}
use Rattle.onfi_schedule.proofs.turns.running_not_over.Given as goal

abbrev pub invariant-loop-group : goal.invariant-loop-group
invariant-loop-group l = All (LeftFirst l.timing (states_of l.table l.luns) l.rest) (drop l.group-index l.groups) ↔ All (LeftFirst l.timing (states_of l.table l.luns) l.rest) l.groups
