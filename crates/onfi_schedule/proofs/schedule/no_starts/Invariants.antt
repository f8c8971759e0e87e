use Rattle.std.proofs.Common.{◌≡◌, [], replicate}
use Rattle.onfi_schedule.proofs.schedule.no_starts.Given as goal

abbrev pub invariant-loop : goal.invariant-loop
invariant-loop l = l.rest.items ≡ replicate l.counter []
