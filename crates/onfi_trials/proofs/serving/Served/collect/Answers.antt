use Rattle.onfi_seq.proofs.OtherEnds.{collected}
use Rattle.onfi_trials.proofs.serving.Served.collect.Goals as goal

pub invariant_of-self : goal.invariant_of-self
invariant_of-self g c =
    let f = c.self.inside in
    collected f.sequencer.0 f.hosts f.inboxes c.args.host c.index-self-host.result c.collect.new.self c.collect.result c.self.invariant c.collect.ensures.given c.collect.ensures.same
