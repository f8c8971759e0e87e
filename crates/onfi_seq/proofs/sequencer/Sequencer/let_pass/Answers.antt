use Rattle.std.proofs.Common.{◌≡◌, true, false, sym, ap, ◌∙◌}
use Rattle.onfi_core.specs.declared.setup.Setup.{Setup}
use Rattle.onfi_core.specs.State.{HalfState}
use Rattle.onfi_seq.specs.Sequencer.{Seen, SequencerFields}
use Rattle.onfi_seq.specs.Turned.{TakesNothing}
use Rattle.onfi_seq.proofs.Keeping.{seen_outside, seen_within}
use Rattle.onfi_core.specs.Steps.{none_left, nothing_to_plan, taken_next}
use Rattle.onfi_core.specs.View.{HalfView}
use Rattle.onfi_seq.specs.Driver.{channel_in}
use Rattle.onfi_seq.proofs.Passing.{nothing_before, takes_nothing}
use Rattle.onfi_seq.proofs.sequencer.Sequencer.let_pass.Goals as goal

pub returns-clause-before : goal.returns-clause-before
returns-clause-before g c =
    let f = c.self.inside in
    let state = g.C.Chip.state in
    let d = c.pass-found.new.self in
    let e = c.pass-found.ensures in
    let fields : Setup → HalfState → SequencerFields = λ s h.
    record { setup = s; half = h; intake = f.intake; posters = f.posters; refused = f.refused; short = f.short } in
    let old : Seen = (fields f.driver.0.setup f.driver.0.half, state f.driver.1) in
    let made : Setup → Seen = λ s. (fields s d.0.half, state d.1) in
    let before = seen_within state TakesNothing _ _ c.self.view_is c.requires.before in
    takes_nothing old (made d.0.setup) (ap made e.setup) e.kept before

pub returns-clause-rests : goal.returns-clause-rests
returns-clause-rests g c over none =
    let f = c.self.inside in
    let state = g.C.Chip.state in
    let d = c.pass-found.new.self in
    let e = c.pass-found.ensures in
    let before = e.phases over in
    let taken = sym (ap (λ (s : Setup). taken_next s d.0.half) e.setup) ∙ none in
    let nothing = nothing_before f.driver.0.setup (channel_in state f.driver) (channel_in state d) e.kept before taken in
    let same = c.nothing_to_plan-current.ensures ∙ ap (λ (v : HalfView). nothing_to_plan v.setup v.state) c.half.ensures.half in
    let over_before = seen_outside state (λ (q : Seen). none_left q.0.half ≡ true) _ _ c.self.view_is before in
    let not_so = c.is_untold.ensures.told c.if-is_untold.false over_before in
    absurd (let q : false ≡ true = sym not_so ∙ same ∙ nothing in cc)
