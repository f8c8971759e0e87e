use Rattle.std.proofs.Common.{◌≡◌, map, take}
use Rattle.onfi_calls.specs.PlainSchedule.{filled, no_group, written_group}
use Rattle.onfi_calls.proofs.plain_schedule.groups.Given as goal

abbrev pub invariant-loop-at : goal.invariant-loop-at
invariant-loop-at l = l.all ≡ filled 8 no_group (map written_group (take l.at l.of))
