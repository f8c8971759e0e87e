use Rattle.std.proofs.Common.{ap, ◌∙◌, subst, arith}
use Rattle.std.proofs.Math.Seq.{map-set_same}
use Rattle.onfi_run.specs.Keys.{LeavesOut, port_key}
use Rattle.onfi_run.proofs.Moments.{none_went, there_went}
use Rattle.onfi_run.proofs.Sends.{none_there, one_more}
use Rattle.onfi_run.proofs.station.Station.leave_out.Goals as goal

pub returns-then-channel-len-clause-same : goal.returns-then-channel-len-clause-same
returns-then-channel-len-clause-same c =
    map-set_same port_key c.args.self.now.ports.items c.args.channel c.leave_out.new.self c.index_mut.result.now
    (c.leave_out.ensures.same ∙ ap port_key c.index_mut.ensures.value)

pub returns-then-channel-len-clause-left : goal.returns-then-channel-len-clause-left
returns-then-channel-len-clause-left c requests request sending =
    one_more requests c.args.self.now.ports.items c.args.channel c.index_mut.result.now c.leave_out.new.self request (omega (arith, c.if-channel-len.true, c.len.ensures))
    (λ before. c.leave_out.ensures.left (requests c.args.channel) request (rw c.index_mut.ensures.value before)) sending

pub returns-else-channel-len-clause-left : goal.returns-else-channel-len-clause-left
returns-else-channel-len-clause-left c requests request sending =
    none_there requests c.args.self.now.ports.items c.args.channel request (omega (arith, c.if-channel-len.false, c.len.ensures)) sending

pub returns-then-channel-len-clause-leaves : goal.returns-then-channel-len-clause-leaves
returns-then-channel-len-clause-leaves c =
    there_went LeavesOut c.args.self.now.ports.items c.args.channel c.index_mut.result.now c.leave_out.new.self (omega (arith, c.if-channel-len.true, c.len.ensures))
    (subst (λ p. LeavesOut p c.leave_out.new.self) c.index_mut.ensures.value c.leave_out.ensures.nothing)

pub returns-else-channel-len-clause-leaves : goal.returns-else-channel-len-clause-leaves
returns-else-channel-len-clause-leaves c = none_went LeavesOut c.args.self.now.ports.items c.args.channel (omega (arith, c.if-channel-len.false, c.len.ensures))
