use Rattle.std.proofs.Common.{◌↔◌, drop}
use Rattle.std.specs.List.{AllByRecursion as All}
use Rattle.onfi_schedule.specs.Schedule.{TakeTurns}
use Rattle.onfi_schedule.proofs.turns.without_turn_among.Given as goal

abbrev pub invariant-loop-other : goal.invariant-loop-other
invariant-loop-other l = All (TakeTurns l.timing l.group) (drop l.other-index l.others) ↔ All (TakeTurns l.timing l.group) l.others
