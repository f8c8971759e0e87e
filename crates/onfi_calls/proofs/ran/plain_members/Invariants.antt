use Rattle.std.proofs.Common.{◌≡◌, map, take}
use Rattle.onfi_calls.specs.Ran.{no_want}
use Rattle.onfi_calls.specs.PlainSchedule.{filled, written_want}
use Rattle.onfi_calls.proofs.ran.plain_members.Given as goal

abbrev pub invariant-loop-at : goal.invariant-loop-at
invariant-loop-at l = l.all ≡ filled 4 no_want (map written_want (take l.at l.wants))
