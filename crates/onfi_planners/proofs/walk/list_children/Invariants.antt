use Rattle.std.proofs.Common.{◌≡◌}
use Rattle.onfi_planners.proofs.walk.list_children.Given as goal

abbrev pub invariant-loop-at : goal.invariant-loop-at
invariant-loop-at l = l.notes.left ≡ l.fn.notes.left
