use Rattle.std.proofs.Common.{◌≡◌, map, take}
use Rattle.onfi_calls.specs.PlainSchedule.{filled, no_rest, written_rest}
use Rattle.onfi_calls.proofs.plain_schedule.fill_rests.Given as goal

abbrev pub invariant-loop-at : goal.invariant-loop-at
invariant-loop-at l = l.all ≡ filled 8 no_rest (map written_rest (take l.at l.of))
