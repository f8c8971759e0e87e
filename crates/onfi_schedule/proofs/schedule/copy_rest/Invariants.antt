use Rattle.std.proofs.Common.{◌≡◌, take}
use Rattle.onfi_schedule.proofs.schedule.copy_rest.Given as goal

abbrev pub invariant-loop-starts : goal.invariant-loop-starts
invariant-loop-starts l = l.copies.items ≡ take l.starts-index l.rest
