use Rattle.std.proofs.Common.{◌≡◌, true}
use Rattle.onfi_seq.specs.Sequencer.{IsSameChannel, Seen, seen_in}
use Rattle.onfi_core.specs.Steps.{IsPromised}
use Rattle.onfi_seq.proofs.Keeping.{right_plans, seen_outside}
use Rattle.onfi_seq.proofs.Same.{same_by_turn, short_by_turn}
use Rattle.onfi_seq.proofs.sequencer.Sequencer.turn_at.Goals as goal

pub returns-clause-same : goal.returns-clause-same
returns-clause-same g c =
    let new = seen_in g.C.Chip.state c.take_turn-turn.new.self in
    seen_outside g.C.Chip.state (λ (q : Seen). IsSameChannel q new) _ _ c.self.view_is (same_by_turn c.args.now _ c.take_turn-turn.result new c.take_turn-turn.ensures)

pub returns-clause-short : goal.returns-clause-short
returns-clause-short g c =
    let new = seen_in g.C.Chip.state c.take_turn-turn.new.self in
    seen_outside g.C.Chip.state (λ (q : Seen). q.0.short ≡ true → new.0.short ≡ true) _ _ c.self.view_is (short_by_turn c.args.now _ c.take_turn-turn.result new c.take_turn-turn.ensures)

pub returns-clause-planned : goal.returns-clause-planned
returns-clause-planned g c = right_plans (IsPromised g.P.Planner.exact g.P.Planner.certifies) c.take_turn-turn.result (seen_in g.C.Chip.state c.take_turn-turn.new.self) c.look.ensures
