use Rattle.std.proofs.Common.{refl, rules}
use Rattle.onfi_queue.proofs.Steps.{sends, host_learns}
use Rattle.onfi_queue.proofs.host.Host.submit.Goals as goal

pub push_as-requires-clause-rule : goal.push_as-requires-clause-rule
push_as-requires-clause-rule g c = let i = c.self.invariant in (sends _ _ _ _ _ _ _ i.1 refl (search rules) (search rules), host_learns _ _ _ _ _ i.1)
