use Rattle.std.proofs.Common.{sym, subst, rules}
use Rattle.onfi_seq.specs.Sequencer.{Seen, seen_in}
use Rattle.onfi_seq.specs.Turned.{IsGoing, TakesNothing}
use Rattle.onfi_seq.proofs.sequencer.Sequencer.serve.Goals as goal

pub plan_or_run-requires-clause-before : goal.plan_or_run-requires-clause-before
plan_or_run-requires-clause-before g c =
    let none = c.accept_one.ensures.none c.if-accept_one.false in
    let going : IsGoing (seen_in g.C.Chip.state c.args.self.now) = search rules in
    let here : TakesNothing (seen_in g.C.Chip.state c.args.self.now) = record { before = going; items = none.1 } in
    subst (λ (q : Seen). TakesNothing q) (sym none.0) here
