use Rattle.onfi_core.specs.Steps.{IsPromised}
use Rattle.onfi_seq.specs.Driver.{channel_in}
use Rattle.onfi_seq.specs.Sequencer.{Seen}
use Rattle.onfi_seq.specs.Turned.{Goes, IsRest, MayRunPhase}
use Rattle.onfi_seq.proofs.Keeping.{seen_outside, seen_within}
use Rattle.onfi_seq.proofs.Turning.{rest_goes, rests_is, seen_same}
use Rattle.onfi_seq.proofs.sequencer.Sequencer.run_next.Goals as goal

pub returns-in-NoPhase : goal.returns-in-NoPhase
returns-in-NoPhase g c =
    let f = c.self.inside in
    let state = g.C.Chip.state in
    let old : Seen = (record { setup = f.driver.0.setup; half = f.driver.0.half; intake = f.intake; posters = f.posters; refused = f.refused; short = f.short }, state f.driver.1) in
    let d = c.run.new.self in
    let new : Seen = (record { setup = d.0.setup; half = d.0.half; intake = f.intake; posters = f.posters; refused = f.refused; short = f.short }, state d.1) in
    let may = seen_within state MayRunPhase _ _ c.self.view_is c.requires.before in
    let rest = seen_within state (λ (q : Seen). IsRest q c.args.rest) _ _ c.self.view_is c.requires.rest in
    let same = seen_same f.intake f.posters f.refused f.short f.driver.0.setup d.0.setup (channel_in state f.driver) (channel_in state d) c.run.ensures.setup c.in-NoPhase.ensures.ran.1 in
    let rests = rests_is (IsPromised g.P.Planner.exact g.P.Planner.certifies) old c.half-half.ensures.reached may c.in-NoPhase.ensures.ran.0 in
    seen_outside state (λ (q : Seen). Goes c.args.now q c.args.rest new) _ _ c.self.view_is (rest_goes c.args.now old new c.args.rest rest rests same)
