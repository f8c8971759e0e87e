use Rattle.std.proofs.Common.{◌≡◌, ◌+◌, ◌≤◌, length, vec_capacity}
use Rattle.std.specs.Vec.Iter.{into_iter_items, into_iter_len}
use Rattle.onfi_core.specs.Queues.{states_in}
use Rattle.onfi_core.specs.Steps.{IsPromised}
use Rattle.onfi_core.proofs.Cores.{Halfway}
use Rattle.onfi_core.proofs.machine.Core.run.Given as goal

abbrev pub invariant-loop-event : goal.invariant-loop-event
invariant-loop-event g l = record {
  setup : l.self.0 ≡ l.fn.self.0;
  halfway : Halfway (IsPromised g.P.Planner.exact g.P.Planner.certifies) l.fn.self.0 (states_in g.C.Chip.state l.fn.self) l.fn.events.items (into_iter_items l.left) l.outcomes.items (states_in g.C.Chip.state l.self);
  room : length l.outcomes.items + into_iter_len l.left ≤ vec_capacity l.outcomes;
}

abbrev pub decreases-loop-event : goal.decreases-loop-event
decreases-loop-event g l = into_iter_len l.left
