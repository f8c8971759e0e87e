use Rattle.onfi_seq.proofs.OtherEnds.{submitted}
use Rattle.onfi_trials.proofs.serving.Served.submit.Goals as goal

pub invariant_of-self : goal.invariant_of-self
invariant_of-self g c =
    let f = c.self.inside in
    submitted f.sequencer.0 f.hosts f.inboxes c.args.host c.index-self-host.result c.submit_by.new.host c.self.invariant c.submit_by.ensures
