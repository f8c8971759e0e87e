use Rattle.std.proofs.Common.{◌≡◌, [], take}
use Rattle.std.specs.List.{filter}
use Rattle.onfi_core.specs.State.{is_to}
use Rattle.onfi_core.proofs.oldest.oldest_for.Given as goal

abbrev pub invariant-loop-at : goal.invariant-loop-at
invariant-loop-at l = filter (is_to l.host) (take l.at l.held) ≡ []
