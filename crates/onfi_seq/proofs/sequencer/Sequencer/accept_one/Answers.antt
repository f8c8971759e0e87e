use Rattle.std.proofs.Common.{ℕ, ◌+◌, ap, ◌∙◌}
use Rattle.std.specs.Prelude.{slice_set}
use Rattle.onfi_seq.specs.Sequencer.{SequencerFields}
use Rattle.onfi_seq.proofs.Keeping.{kept_accepting}
use Rattle.onfi_seq.proofs.sequencer.Sequencer.accept_one.Goals as goal

pub invariant_of-self-2 : goal.invariant_of-self-2
invariant_of-self-2 g c =
    let f = c.self.inside in
    let q : SequencerFields = record { setup = f.driver.0.setup; half = f.driver.0.half; intake = f.intake; posters = f.posters; refused = f.refused; short = f.short } in
    let set = ap (λ (n : ℕ). slice_set f.accepted_by n (c.from.result + 1)) c.from-2.ensures ∙ ap (λ (n : ℕ). slice_set f.accepted_by c.in-Some.item.host (n + 1)) c.from.ensures in
    rw (c.accept-2.ensures, c.in-Some.ensures.accepted) (kept_accepting q f.accepted_by c.in-Some.item c.self.invariant (slice_set f.accepted_by c.from-2.result (c.from.result + 1)) c.in-Some.ensures.next set)
