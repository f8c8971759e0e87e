use Rattle.std.proofs.Common.{◌≡◌}
use Rattle.onfi_run.proofs.Collecting.{Emptying}
use Rattle.onfi_run.proofs.finishing.empty.Given as goal

abbrev pub invariant-loop : goal.invariant-loop
invariant-loop g l = (l.inbox.queue ≡ l.fn.inbox.queue) × Emptying l.now l.fn.inbox l.fn.answers l.inbox l.answers
