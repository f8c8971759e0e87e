use Rattle.std.proofs.Common.{refl, subst}
use Rattle.onfi_run.specs.Requests.{request_of}
use Rattle.onfi_run.proofs.Moments.{makes_moment, same_moment}
use Rattle.onfi_run.proofs.acts.make.Goals as goal

pub returns-then-made-clause-made : goal.returns-then-made-clause-made
returns-then-made-clause-made g c made = (
  c.has_ended-ended.result,
  subst (λ n. g.A.Channels.ended c.args.channels.now n c.has_ended-ended.result) c.from-channel.ensures c.has_ended-ended.ensures,
  c.operate_at-made.ensures.made made,
)

pub returns-then-made-clause-woken : goal.returns-then-made-clause-woken
returns-then-made-clause-woken g c made = subst (λ n. g.A.Channels.woken c.args.channels.now n c.wake.new.self) c.from-channel.ensures c.wake.ensures.woken

pub returns-then-made-clause-moments : goal.returns-then-made-clause-moments
returns-then-made-clause-moments g c =
    let op = c.args.operation.now in
    makes_moment c.args.now op.aim.channel (request_of c.args.course.now.geometry.now op) c.has_ended-ended.result c.args.station.now c.operate_at-made.new.self
    (c.operate_at-made.ensures.made c.if-made.true)

pub returns-else-made-clause-waits : goal.returns-else-made-clause-waits
returns-else-made-clause-waits g c none =
    let w = c.operate_at-made.ensures.waits none in
    let ended = subst (λ n. g.A.Channels.ended c.args.channels.now n c.has_ended-ended.result) c.from-channel.ensures c.has_ended-ended.ensures in
    (refl, w.0, record { full = w.1; goes_on = subst (λ e. g.A.Channels.ended c.args.channels.now c.args.operation.now.aim.channel e) w.2 ended })

pub returns-else-made-clause-moments : goal.returns-else-made-clause-moments
returns-else-made-clause-moments g c =
    same_moment c.args.now c.args.station.now.ports.items c.operate_at-made.new.self.ports.items (c.operate_at-made.ensures.waits c.if-made.false).0
