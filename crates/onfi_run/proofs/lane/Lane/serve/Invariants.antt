use Rattle.std.proofs.Common.{◌≡◌}
use Rattle.std.specs.Prelude.{IsTrue}
use Rattle.onfi_run.proofs.lane.Lane.serve.Given as goal

abbrev pub invariant-loop : goal.invariant-loop
invariant-loop g l =
    (g.C.Channel.queues l.self.channel ≡ g.C.Channel.queues l.fn.self.channel) × (IsTrue (g.C.Channel.short l.fn.self.channel) → IsTrue (g.C.Channel.short l.self.channel))
