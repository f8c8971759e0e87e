use Rattle.onfi_core.specs.Steps.{IsPromised}
use Rattle.onfi_seq.specs.Sequencer.{IsRight}
use Rattle.onfi_seq.proofs.Keeping.{right_is, seen_outside}
use Rattle.onfi_seq.proofs.sequencer.Sequencer.look.Goals as goal

pub returns : goal.returns
returns g c = seen_outside g.C.Chip.state (IsRight (IsPromised g.P.Planner.exact g.P.Planner.certifies)) _ _ c.self.view_is (right_is (IsPromised g.P.Planner.exact g.P.Planner.certifies) _ c.self.inside.accepted_by c.self.invariant c.half-half.ensures.reached)
