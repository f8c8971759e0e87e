use Rattle.std.proofs.Common.{◌+◌, ◌≤◌, length, vec_capacity}
use Rattle.std.specs.List.{AllByRecursion as Each}
use Rattle.std.specs.Vec.Iter.{into_iter_items, into_iter_len}
use Rattle.onfi_core.specs.Queues.{IsFresh}
use Rattle.onfi_core.proofs.Cores.{OpenedSoFar}
use Rattle.onfi_core.proofs.machine.open_channels.Given as goal

abbrev pub invariant-loop-chip : goal.invariant-loop-chip
invariant-loop-chip g l = record {
  opened : OpenedSoFar g.C.Chip.state l.setup l.fn.chips.items (into_iter_items l.left) l.channels.items;
  fresh : Each (λ chip. IsFresh l.setup (g.C.Chip.state chip)) (into_iter_items l.left);
  room : length l.channels.items + into_iter_len l.left ≤ vec_capacity l.channels;
}

abbrev pub decreases-loop-chip : goal.decreases-loop-chip
decreases-loop-chip g l = into_iter_len l.left
