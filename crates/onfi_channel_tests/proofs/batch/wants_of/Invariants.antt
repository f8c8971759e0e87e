use Rattle.std.proofs.Common.{◌≡◌, take}
use Rattle.onfi_core.specs.State.{wants_from}
use Rattle.onfi_channel_tests.proofs.batch.wants_of.Given as goal

abbrev pub invariant-loop-id : goal.invariant-loop-id
invariant-loop-id l = l.wants.items ≡ wants_from l.geometry 0 (take l.id l.items)
