use Rattle.std.proofs.Common.{arith}
use Rattle.onfi_core.proofs.Queueing.{fields_opened}
use Rattle.onfi_core.proofs.channel.Channel.open.Goals as goal

pub invariant_of-result : goal.invariant_of-result
invariant_of-result g c =
    fields_opened c.args.setup c.in_ok-half.half (g.C.Chip.state c.args.chip) c.new.result.accepted c.in_ok-waiting.waiting.items c.new.result.posted _ c.in_ok-hosts.hosts.items c.in_ok-lanes.lanes
    c.in_ok-half.ensures c.new.ensures.0 c.in_ok-waiting.ensures.items c.new.ensures.2 c.requires c.in_ok-lanes.ensures c.in_ok-hosts.ensures.count c.in_ok-hosts.ensures.empty (omega (arith, c.in_ok-waiting.ensures.capacity, c.from.ensures))
