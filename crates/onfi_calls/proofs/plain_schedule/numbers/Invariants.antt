use Rattle.std.proofs.Common.{◌≡◌, map, take}
use Rattle.onfi_calls.specs.PlainSchedule.{filled}
use Rattle.onfi_calls.proofs.plain_schedule.numbers.Given as goal

abbrev pub invariant-loop-at : goal.invariant-loop-at
invariant-loop-at l = l.all ≡ filled 4 0 (map (λ w. w.id) (take l.at l.wants))
