use Rattle.std.proofs.Common.{refl}
use Rattle.std.specs.VecDeque.{deque_capacity}
use Rattle.onfi_core.specs.Core.{with_batch}
use Rattle.onfi_core.specs.State.{ChannelState}
use Rattle.onfi_core.specs.Steps.{IsAny}
use Rattle.onfi_core.proofs.Queueing.{queues_same}
use Rattle.onfi_core.proofs.Reaching.{batch_reached}
use Rattle.onfi_core.proofs.channel.Channel.set_batch.Goals as goal

pub invariant_of-self : goal.invariant_of-self
invariant_of-self g c =
    let i = c.self.invariant in
    let f = c.self.inside in
    let now : ChannelState = record { half = f.half.state; chip = g.C.Chip.state f.chip; sent = f.traffic.accepted; waiting = f.waiting.items; collected = f.traffic.posted } in
    let q = queues_same f.half.setup _ f.half.lent _ (deque_capacity f.waiting) f.hosts.items _ _ now (with_batch c.args.batch now) i ((batch_reached IsAny f.half.setup now c.args.batch c.requires.some c.requires.few).1 i.reached) i.lanes_are refl refl refl i.settled refl in
    rw c.set_batch.ensures q
