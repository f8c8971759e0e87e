use Rattle.std.proofs.Common.{◌≡◌, map, take}
use Rattle.onfi_calls.specs.Delay.{later_rest}
use Rattle.onfi_calls.specs.PlainSchedule.{filled, no_rest}
use Rattle.onfi_calls.proofs.delay.delay_rests.Given as goal

abbrev pub invariant-loop-at : goal.invariant-loop-at
invariant-loop-at l = l.all ≡ filled 8 no_rest (map (later_rest l.by) (take l.at l.said))
