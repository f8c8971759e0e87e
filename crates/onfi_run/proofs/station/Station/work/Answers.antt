use Rattle.std.proofs.Common.{◌∙◌, refl, subst, arith}
use Rattle.onfi_run.specs.Sending.{HasSent}
use Rattle.onfi_run.proofs.Acting.{sent_then}
use Rattle.onfi_run.proofs.Sends.{take_all}
use Rattle.onfi_run.proofs.station.Station.work.Goals as goal

pub loop-init : goal.loop-init
loop-init g c = (refl, refl, λ sent. sent)

pub loop-preserved : goal.loop-preserved
loop-preserved g c =
    let had = c.loop.invariant in
    let acts = c.act-acted.ensures.acts in (
      acts.number ∙ had.0,
      acts.same ∙ had.1,
      λ sent. sent_then _ _ _ c.loop.self c.act-acted.new.station _ acts had.0 (had.2 sent),
    )

pub returns-then-have_hosts_ended-clause-sent : goal.returns-then-have_hosts_ended-clause-sent
returns-then-have_hosts_ended-clause-sent g c sent =
    let new = c.act-acted.new.station in
    let all = sent_then _ _ _ c.loop.self new _ c.act-acted.ensures.acts c.loop.invariant.0 (c.loop.invariant.2 sent) in
    subst (λ l. HasSent c.args.geometry.now l c.args.self.number new.ports.items) (take_all c.args.rows.now new.passed (omega (arith, c.if-self-rows.true))) all
