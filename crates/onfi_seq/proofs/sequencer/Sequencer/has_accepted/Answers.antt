use Rattle.std.proofs.Common.{refl, subst}
use Rattle.onfi_seq.specs.Drained.{AreAccepted}
use Rattle.onfi_seq.specs.Sequencer.{SequencerFields, SequencerView}
use Rattle.onfi_seq.proofs.Draining.{all_accepted}
use Rattle.onfi_seq.proofs.sequencer.Sequencer.has_accepted.Goals as goal

pub returns : goal.returns
returns g c =
    let f = c.self.inside in
    let q : SequencerFields = record { setup = f.driver.0.setup; half = f.driver.0.half; intake = f.intake; posters = f.posters; refused = f.refused; short = f.short } in
    let all = all_accepted q f.accepted_by c.args.hosts.now c.loop-host.host c.self.invariant.counts_are c.type_inv.hosts c.loop-host-test.false c.loop-host.invariant in
    (λ _. subst (λ (v : SequencerView g.row.C.Denot). AreAccepted v.0.half c.args.hosts.now) c.self.view_is all, λ _. refl)
