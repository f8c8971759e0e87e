use Rattle.std.proofs.Common.{subst}
use Rattle.onfi_run.specs.Keys.{LeavesOut}
use Rattle.onfi_run.specs.Moments.{Makes, OnPort, is_short, is_submitted}
use Rattle.onfi_run.specs.Resting.{IsFullAt}
use Rattle.onfi_run.proofs.station.Station.operate_at.Goals as goal

pub returns-in-Ok-clause-made : goal.returns-in-Ok-clause-made
returns-in-Ok-clause-made g c made =
    let old = c.args.self.now in
    let new = c.submit.new.self in
    let here = subst (λ n. Makes c.args.now n c.in-Ok.request c.args.has_ended old new) c.from-channel.ensures (is_submitted (c.submit.ensures.submits made) c.submit.ensures.short) in
    subst (λ r. Makes c.args.now c.args.operation.now.aim.channel r c.args.has_ended old new) c.in-Ok.ensures here

pub returns-in-Ok-clause-waits : goal.returns-in-Ok-clause-waits
returns-in-Ok-clause-waits g c none =
    let w = c.submit.ensures.waits none in
    (w.0, subst (IsFullAt c.args.self.now.ports.items) c.from-channel.ensures w.1, w.2)

pub returns-in-Err-clause-made : goal.returns-in-Err-clause-made
returns-in-Err-clause-made g c made =
    let short = c.leave_out in
    is_short (subst (λ n. OnPort LeavesOut n c.args.self.now.ports.items short.new.self.ports.items) c.from-channel.ensures short.ensures.leaves) short.ensures.short
