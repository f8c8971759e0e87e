use Rattle.std.proofs.Common.{ap, ◌∙◌, Some, subst, sym, arith}
use Rattle.std.proofs.Math.Seq.{map-set_same}
use Rattle.std.proofs.lemmas.Option.{slice_get-get_or}
use Rattle.onfi_run.specs.Keys.{Submits, port_key}
use Rattle.onfi_run.proofs.Moments.{none_went, there_went}
use Rattle.onfi_run.proofs.Resting.{set_back}
use Rattle.onfi_run.proofs.Sends.{none_there, one_more}
use Rattle.onfi_run.proofs.station.Station.submit.Goals as goal

pub returns-then-channel-len-clause-same : goal.returns-then-channel-len-clause-same
returns-then-channel-len-clause-same g c =
    map-set_same port_key c.args.self.now.ports.items c.args.channel c.submit.new.self c.index_mut.result.now
    (c.submit.ensures.same ∙ ap port_key c.index_mut.ensures.value)

pub returns-then-channel-len-clause-sent : goal.returns-then-channel-len-clause-sent
returns-then-channel-len-clause-sent g c made requests sending =
    one_more requests c.args.self.now.ports.items c.args.channel c.index_mut.result.now c.submit.new.self c.args.request (omega (arith, c.if-channel-len.true, c.len.ensures))
    (λ before. c.submit.ensures.sent made (requests c.args.channel) (rw c.index_mut.ensures.value before)) sending

pub returns-else-channel-len-clause-sent : goal.returns-else-channel-len-clause-sent
returns-else-channel-len-clause-sent g c made requests sending =
    none_there requests c.args.self.now.ports.items c.args.channel c.args.request (omega (arith, c.if-channel-len.false, c.len.ensures)) sending

pub returns-then-channel-len-clause-submits : goal.returns-then-channel-len-clause-submits
returns-then-channel-len-clause-submits g c made =
    let went = Submits c.args.now c.args.request c.args.has_ended in
    there_went went c.args.self.now.ports.items c.args.channel c.index_mut.result.now c.submit.new.self (omega (arith, c.if-channel-len.true, c.len.ensures))
    (subst (λ p. went p c.submit.new.self) c.index_mut.ensures.value (c.submit.ensures.submits made))

pub returns-then-channel-len-clause-waits : goal.returns-then-channel-len-clause-waits
returns-then-channel-len-clause-waits g c none =
    let ports = c.args.self.now.ports.items in
    let p = c.index_mut.result.now in
    let w = c.submit.ensures.waits none in (
      set_back ports c.args.channel p c.submit.new.self (w.0 ∙ c.index_mut.ensures.value),
      record {
        port = p;
        there = slice_get-get_or ports c.args.channel p (omega (arith, c.if-channel-len.true, c.len.ensures)) ∙ ap Some (sym c.index_mut.ensures.value);
        full = w.1;
      },
      w.2,
    )

pub returns-else-channel-len-clause-submits : goal.returns-else-channel-len-clause-submits
returns-else-channel-len-clause-submits g c made = none_went _ c.args.self.now.ports.items c.args.channel (omega (arith, c.if-channel-len.false, c.len.ensures))
