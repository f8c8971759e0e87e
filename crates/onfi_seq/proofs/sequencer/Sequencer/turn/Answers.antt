use Rattle.std.proofs.Common.{sym, subst}
use Rattle.onfi_seq.specs.declared.turn.TurnAt.{TurnAt}
use Rattle.onfi_seq.specs.NoClock.{TurnedAtOnce, greatest}
use Rattle.onfi_seq.specs.Sequencer.{seen_in}
use Rattle.onfi_seq.specs.Turned.{Turned}
use Rattle.onfi_core.specs.Steps.{IsPromised}
use Rattle.onfi_seq.proofs.AtOnce.{goes_now, turned_at_once}
use Rattle.onfi_seq.proofs.Keeping.{right_plans}
use Rattle.onfi_seq.proofs.sequencer.Sequencer.turn.Goals as goal

pub turn_of-requires : goal.turn_of-requires
turn_of-requires g c =
    let st = g.C.Chip.state in
    goes_now (seen_in st c.args.self.now) c.turn_at-answer.result (seen_in st c.turn_at-answer.new.self) c.turn_at-answer.ensures.turned

pub returns-clause-turned : goal.returns-clause-turned
returns-clause-turned g c =
    let st = g.C.Chip.state in
    let old = seen_in st c.args.self.now in
    let new = seen_in st c.turn_at-answer.new.self in
    subst (λ (a : TurnAt). Turned greatest old a new) (sym c.turn_of.ensures) c.turn_at-answer.ensures.turned

pub returns-clause-no_time : goal.returns-clause-no_time
returns-clause-no_time g c =
    let st = g.C.Chip.state in
    let old = seen_in st c.args.self.now in
    let new = seen_in st c.turn_at-answer.new.self in
    subst (λ (a : TurnAt). TurnedAtOnce old a new) (sym c.turn_of.ensures) (turned_at_once old c.turn_at-answer.result new c.turn_at-answer.ensures.turned)

pub returns-clause-planned : goal.returns-clause-planned
returns-clause-planned g c = right_plans (IsPromised g.P.Planner.exact g.P.Planner.certifies) _ (seen_in g.C.Chip.state c.turn_at-answer.new.self) c.turn_at-answer.ensures.right
