use Rattle.onfi_chip.specs.SimChip.{chip_in}
use Rattle.onfi_seq.specs.Sequencer.{seen_in}
use Rattle.onfi_seq.proofs.OtherEnds.{drained}
use Rattle.onfi_trials.proofs.serving.Served.make_draining_at.Goals as goal

pub invariant_of-self : goal.invariant_of-self
invariant_of-self g c =
    let f = c.self.inside in
    let d = c.drain_at in
    drained (seen_in chip_in f.sequencer) (seen_in chip_in d.new.self) f.hosts f.inboxes d.new.inboxes c.self.invariant d.ensures.same d.ensures.inboxes
