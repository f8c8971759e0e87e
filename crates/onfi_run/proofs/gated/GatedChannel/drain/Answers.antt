use Rattle.onfi_chip.specs.SimChip.{chip_in}
use Rattle.onfi_record.specs.Recording.{chip_in as recorded}
use Rattle.onfi_seq.specs.Sequencer.{seen_in}
use Rattle.onfi_run.specs.Ending.{no_clock}
use Rattle.onfi_run.proofs.Limits.{drained_over, right_is_sound}
use Rattle.onfi_run.proofs.Same.{grown_queues, same_queues}
use Rattle.onfi_run.proofs.gated.GatedChannel.drain.Goals as goal

pub returns-clause-same : goal.returns-clause-same
returns-clause-same g c = same_queues (seen_in (recorded chip_in) c.args.self.now.sequencer) (seen_in (recorded chip_in) c.drain-end.new.self) c.drain-end.ensures.same

pub returns-clause-inboxes : goal.returns-clause-inboxes
returns-clause-inboxes g c = grown_queues c.args.inboxes.now c.drain-end.new.inboxes c.drain-end.ensures.inboxes.count c.drain-end.ensures.inboxes.each

pub returns-clause-over : goal.returns-clause-over
returns-clause-over g c =
    drained_over _ no_clock (seen_in (recorded chip_in) c.args.self.now.sequencer) c.args.hosts.now c.args.inboxes.now c.drain-end.new.inboxes 1000000 c.drain-end.result (seen_in (recorded chip_in) c.drain-end.new.self)
    c.end_of.result c.drain-end.ensures.drains (right_is_sound _ (seen_in (recorded chip_in) c.drain-end.new.self) c.drain-end.ensures.right) c.end_of.ensures
