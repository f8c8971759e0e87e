use Rattle.std.proofs.Common.{inl, inr, subst, sym}
use Rattle.onfi_seq.specs.Sequencer.{Seen, seen_in}
use Rattle.onfi_seq.specs.Turned.{Goes, MayRunPhase, PlansAtOnce}
use Rattle.onfi_seq.proofs.Passing.{plans_go, turned_then}
use Rattle.onfi_seq.proofs.sequencer.Sequencer.plan_or_run.Goals as goal

pub returns-in-Some : goal.returns-in-Some
returns-in-Some g c =
    let old = seen_in g.C.Chip.state c.args.self.now in
    let mid = seen_in g.C.Chip.state c.let_pass-stale.new.self in
    let new = seen_in g.C.Chip.state c.plan_once.new.self in
    let e = c.let_pass-stale.ensures in
    let plans = c.in-Some.ensures.some in
    turned_then c.args.now old mid c.in-Some.turn new e.passes e.rests (plans_go c.args.now mid c.in-Some.turn new plans) (inr (inl plans))

pub returns-in-None : goal.returns-in-None
returns-in-None g c =
    let old = seen_in g.C.Chip.state c.args.self.now in
    let mid = seen_in g.C.Chip.state c.let_pass-stale.new.self in
    let new = seen_in g.C.Chip.state c.run_next.new.self in
    let e = c.let_pass-stale.ensures in
    let goes = subst (λ (q : Seen). Goes c.args.now q c.run_next.result new) c.in-None.ensures.none.0 c.run_next.ensures in
    let planned : PlansAtOnce old mid c.run_next.result new = elim c.in-None.ensures.later [ inl found ↦ inl (e.luns found) | inr later ↦ inr (inr later) ] in
    turned_then c.args.now old mid c.run_next.result new e.passes e.rests goes planned

pub run_next-requires-clause-before : goal.run_next-requires-clause-before
run_next-requires-clause-before g c =
    subst MayRunPhase (sym c.in-None.ensures.none.0) (record { before = c.let_pass-stale.ensures.before; plans = c.in-None.ensures.none.1 })
