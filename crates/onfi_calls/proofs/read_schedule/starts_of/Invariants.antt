use Rattle.std.proofs.Common.{◌≡◌, take}
use Rattle.onfi_calls.proofs.read_schedule.starts_of.Given as goal

abbrev pub invariant-loop-start : goal.invariant-loop-start
invariant-loop-start l = l.starts ≡ take l.start-index l.said
