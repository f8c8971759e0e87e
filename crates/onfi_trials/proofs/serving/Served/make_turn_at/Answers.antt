use Rattle.onfi_chip.specs.SimChip.{chip_in}
use Rattle.onfi_seq.specs.Sequencer.{seen_in}
use Rattle.onfi_seq.proofs.OtherEnds.{still_ends}
use Rattle.onfi_trials.proofs.serving.Served.make_turn_at.Goals as goal

pub invariant_of-self : goal.invariant_of-self
invariant_of-self g c =
    let f = c.self.inside in
    still_ends (seen_in chip_in f.sequencer) (seen_in chip_in c.turn_at.new.self) f.hosts f.inboxes c.turn_at.ensures.same c.self.invariant
