use Rattle.std.proofs.Common.{◌≡◌, ◌+◌, map, take}
use Rattle.onfi_calls.specs.PlainSchedule.{filled}
use Rattle.onfi_calls.proofs.delay.delay_starts.Given as goal

abbrev pub invariant-loop-at : goal.invariant-loop-at
invariant-loop-at l = l.all ≡ filled 8 0 (map (λ t. t + l.by) (take l.at l.starts))
