use Rattle.std.proofs.Common.{◌≡◌, ℕ, ◌<◌, length, ap, ◌∙◌, subst, arith}
use Rattle.onfi_group.specs.Words.{number}
use Rattle.onfi_core.specs.Kept.{is_of_place}
use Rattle.onfi_core.specs.View.{HalfView}
use Rattle.onfi_seq.specs.declared.closed.Closed.{Closed}
use Rattle.onfi_seq.specs.Drained.{CompletesWhere}
use Rattle.onfi_seq.specs.Sequencer.{SequencerView}
use Rattle.onfi_seq.proofs.Closing.{completes, counted}
use Rattle.onfi_seq.proofs.sequencer.Sequencer.close.Goals as goal

pub returns-clause-complete : goal.returns-clause-complete
returns-clause-complete g c =
    let f = c.self.inside in
    let half = c.half-half.ensures.half in
    let closed : Closed = record { sent = c.close-sent.result; accepted = c.accepted_count-accepted.result; posted = c.posted_count-posted.result } in
    let four : length c.close-sent.result ≡ 4 = omega arith in
    let accepted = c.accepted_count-accepted.ensures ∙ ap (λ (v : HalfView). length v.state.accepted) half in
    let posted = c.posted_count-posted.ensures ∙ ap (λ (v : HalfView). length v.state.posted) half in
    let answered = c.is_answered-answered.ensures in
    let Each : HalfView → Type 0 = λ (v : HalfView). length v.state.posted ≡ length v.state.accepted → (place : ℕ) → place < length v.state.accepted → number (is_of_place place) v.state.posted ≡ 1 in
    let each = subst Each half (λ as_many. answered.each (answered.count.1 as_many)) in
    let complete = completes closed f.driver.0.half f.intake c.args.hosts (counted c.close-sent.result c.args.hosts c.close-sent.ensures.sent four) c.self.invariant.accepted c.close-sent.ensures.settled c.close-sent.ensures.sent accepted posted each in
    subst (λ (v : SequencerView g.row.C.Denot). CompletesWhere closed v.0.half c.args.hosts) c.self.view_is complete
