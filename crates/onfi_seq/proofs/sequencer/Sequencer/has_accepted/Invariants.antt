use Rattle.onfi_seq.proofs.Draining.{AcceptedBelow}
use Rattle.onfi_seq.proofs.sequencer.Sequencer.has_accepted.Given as goal

abbrev pub invariant-loop-host : goal.invariant-loop-host
invariant-loop-host g l = AcceptedBelow l.host l.self-inside.accepted_by l.hosts
