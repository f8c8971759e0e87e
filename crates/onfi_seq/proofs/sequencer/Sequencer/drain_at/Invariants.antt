use Rattle.std.proofs.Common.{◌-◌, ◌≤◌}
use Rattle.onfi_core.specs.Steps.{IsPromised}
use Rattle.onfi_seq.specs.Sequencer.{IsRight, seen_in}
use Rattle.onfi_seq.proofs.Draining.{Draining}
use Rattle.onfi_seq.proofs.sequencer.Sequencer.drain_at.Given as goal

abbrev pub invariant-loop-alloc : goal.invariant-loop-alloc
invariant-loop-alloc g l = record {
  few : l.made ≤ l.fn.turns;
  right : IsRight (IsPromised g.P.Planner.exact g.P.Planner.certifies) (seen_in g.C.Chip.state l.self);
  so_far : Draining (IsPromised g.P.Planner.exact g.P.Planner.certifies) l.fn.now (seen_in g.C.Chip.state l.fn.self) l.fn.inboxes l.made (seen_in g.C.Chip.state l.self) l.inboxes;
}

abbrev pub decreases-loop-alloc : goal.decreases-loop-alloc
decreases-loop-alloc g l = l.fn.turns - l.made
