use Rattle.std.proofs.Common.{◌≡◌, ◌++◌, take, drop}
use Rattle.onfi_core.specs.State.{wants_from}
use Rattle.onfi_core.proofs.half.Half.next_wants.Given as goal

abbrev pub invariant-loop-at : goal.invariant-loop-at
invariant-loop-at l = l.wants.items ≡ l.self-inside.way.now.wants ++ take l.at (wants_from l.self-inside.setup.geometry l.self-inside.planned (drop l.self-inside.planned l.self-inside.history.accepted))
