use Rattle.std.proofs.Common.{◌≡◌}
use Rattle.onfi_seq.specs.Drained.{HaveGrown, refusals_of}
use Rattle.onfi_seq.proofs.sequencer.draining.take_in_all.Given as goal

abbrev pub invariant-loop-at : goal.invariant-loop-at
invariant-loop-at g l = HaveGrown l.fn.inboxes l.inboxes × (refusals_of l.inboxes ≡ refusals_of l.fn.inboxes)
