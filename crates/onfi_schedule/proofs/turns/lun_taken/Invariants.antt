use Rattle.std.proofs.Common.{◌↔◌, drop}
use Rattle.onfi_group.specs.Words.{Pairs}
use Rattle.onfi_schedule.specs.Schedule.{TakeTurns}
use Rattle.onfi_schedule.proofs.turns.lun_taken.Given as goal

abbrev pub invariant-loop-at : goal.invariant-loop-at
invariant-loop-at l = Pairs (TakeTurns l.timing) (drop l.at l.groups) ↔ Pairs (TakeTurns l.timing) l.groups
