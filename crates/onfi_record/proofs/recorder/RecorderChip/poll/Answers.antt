use Rattle.std.proofs.Common.{Bool, true, false, inl, inr, refl}
use Rattle.onfi_record.proofs.Coming.{polled_goes, recorded_by}
use Rattle.onfi_record.proofs.recorder.RecorderChip.poll.Goals as goal

pub invariant_of-self : goal.invariant_of-self
invariant_of-self g c =
    recorded_by c.self.inside.log (g.C.Chip.state c.self.inside.chip) (g.C.Chip.state c.poll.new.self) c.self.invariant
    (polled_goes c.poll.result c.args.lun c.args.now _ _ c.poll.ensures.ready c.poll.ensures.busy)
