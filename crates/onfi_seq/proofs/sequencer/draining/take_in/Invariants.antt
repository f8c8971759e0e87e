use Rattle.std.proofs.Common.{◌≡◌}
use Rattle.onfi_seq.specs.Drained.{HasGrown}
use Rattle.onfi_seq.proofs.sequencer.draining.take_in.Given as goal

abbrev pub invariant-loop-reply : goal.invariant-loop-reply
invariant-loop-reply g l = HasGrown l.fn.inbox l.inbox × (l.inbox.refused ≡ l.fn.inbox.refused)
