use Rattle.std.specs.Prelude.{IfSome}
use Rattle.onfi_core.specs.Steps.{IsBest, IsPromised}
use Rattle.onfi_core.proofs.Cores.{best_of}
use Rattle.onfi_seq.specs.Sequencer.{Seen}
use Rattle.onfi_seq.proofs.Keeping.{seen_outside}
use Rattle.onfi_seq.proofs.sequencer.Sequencer.last_plan.Goals as goal

pub returns-clause-promised : goal.returns-clause-promised
returns-clause-promised g c = seen_outside g.C.Chip.state (λ (q : Seen). IfSome q.0.half.last (IsPromised g.P.Planner.exact g.P.Planner.certifies)) _ _ c.self.view_is c.half.ensures.promised

pub returns-clause-best : goal.returns-clause-best
returns-clause-best g c is =
    let d = c.self.inside.driver in
    seen_outside g.C.Chip.state (λ (q : Seen). IfSome q.0.half.last IsBest) _ _ c.self.view_is (best_of g.P.Planner.exact g.P.Planner.certifies d.0.half.last is c.half.ensures.promised)
