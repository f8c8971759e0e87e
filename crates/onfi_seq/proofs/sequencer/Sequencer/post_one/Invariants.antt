use Rattle.onfi_seq.specs.Sequencer.{seen_in}
use Rattle.onfi_seq.proofs.Turning.{Offering}
use Rattle.onfi_seq.proofs.sequencer.Sequencer.post_one.Given as goal

abbrev pub invariant-loop-host : goal.invariant-loop-host
invariant-loop-host g l = Offering (seen_in g.C.Chip.state l.fn.self) (seen_in g.C.Chip.state l.self) l.host l.held
