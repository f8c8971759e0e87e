use Rattle.std.proofs.Common.{◌≡◌, ℕ, List, Some, get_or, ap, sym, ◌∙◌, subst, arith}
use Rattle.std.proofs.lemmas.Option.{slice_get-get_or}
use Rattle.std.specs.Prelude.{slice_get, slice_set}
use Rattle.onfi_reply.specs.Ends.{PosterView}
use Rattle.onfi_seq.specs.Driver.{DriverView}
use Rattle.onfi_seq.specs.Sequencer.{Seen, SequencerFields}
use Rattle.onfi_seq.specs.Turned.{OfferedTo}
use Rattle.onfi_seq.proofs.Keeping.{kept_offered, seen_outside}
use Rattle.onfi_seq.proofs.Turning.{offered_to, planned_seen}
use Rattle.onfi_seq.proofs.sequencer.Sequencer.post_to.Goals as goal

pub invariant_of-self : goal.invariant_of-self
invariant_of-self g c =
    let f = c.self.inside in
    let q : SequencerFields = record { setup = f.driver.0.setup; half = f.driver.0.half; intake = f.intake; posters = f.posters; refused = f.refused; short = f.short } in
    let p = get_or f.posters c.from.result c.index-self-from.result in
    let at : slice_get f.posters c.args.host ≡ Some p = ap (slice_get f.posters) (sym c.from.ensures) ∙ slice_get-get_or f.posters c.from.result c.index-self-from.result (omega (arith, c.requires, c.from.ensures, c.self.invariant.posters)) in
    let setup = ap (λ (d : DriverView _). d.0.setup) c.post.ensures.same in
    rw (c.from.ensures, setup) (kept_offered q f.accepted_by c.args.host p c.post.result c.post.new.self.0.half c.post.new.poster c.self.invariant at c.post.ensures.offered)

pub returns : goal.returns
returns g c =
    let f = c.self.inside in
    let state = g.C.Chip.state in
    let p = get_or f.posters c.from.result c.index-self-from.result in
    let d = c.post.new.self in
    let old : Seen = (record { setup = f.driver.0.setup; half = f.driver.0.half; intake = f.intake; posters = f.posters; refused = f.refused; short = f.short }, state f.driver.1) in
    let at : slice_get f.posters c.args.host ≡ Some p = ap (slice_get f.posters) (sym c.from.ensures) ∙ slice_get-get_or f.posters c.from.result c.index-self-from.result (omega (arith, c.requires, c.from.ensures, c.self.invariant.posters)) in
    let there = offered_to old c.args.host p c.post.result d.0.half c.post.new.poster c.requires at c.post.ensures.offered in
    let set : slice_set f.posters c.from.result c.post.new.poster ≡ slice_set f.posters c.args.host c.post.new.poster = ap (λ (n : ℕ). slice_set f.posters n c.post.new.poster) c.from.ensures in
    let new : List PosterView → Seen = λ ps. (record { setup = d.0.setup; half = d.0.half; intake = f.intake; posters = ps; refused = f.refused; short = f.short }, state d.1) in
    let is = ap new set ∙ planned_seen state f.intake (slice_set f.posters c.args.host c.post.new.poster) f.refused f.short f.driver d c.post.ensures.same in
    seen_outside state (λ (q : Seen). OfferedTo q c.args.host c.post.result (new (slice_set f.posters c.from.result c.post.new.poster))) _ _ c.self.view_is (subst (OfferedTo old c.args.host c.post.result) (sym is) there)
