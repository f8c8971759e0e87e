use Rattle.std.proofs.Common.{ap, ◌∙◌, refl, subst, arith}
use Rattle.std.proofs.Math.Seq.{map-set_same}
use Rattle.onfi_run.specs.Keys.{Collects, port_state}
use Rattle.onfi_run.specs.Resting.{IsEmptied}
use Rattle.onfi_run.proofs.Moments.{collect_moment, none_went, same_moment, there_went}
use Rattle.onfi_run.proofs.Resting.{none_there, set_back, some_there}
use Rattle.onfi_run.proofs.station.Station.collect.Goals as goal

pub returns-then-channel-len-clause-same : goal.returns-then-channel-len-clause-same
returns-then-channel-len-clause-same g c =
    map-set_same port_state c.args.self.now.ports.items c.args.channel c.collect.new.self c.index_mut.result.now
    (c.collect.ensures.same ∙ ap port_state c.index_mut.ensures.value)

pub returns-then-channel-len-clause-collected : goal.returns-then-channel-len-clause-collected
returns-then-channel-len-clause-collected g c =
    there_went (Collects c.args.now c.collect.result) c.args.self.now.ports.items c.args.channel c.index_mut.result.now c.collect.new.self (omega (arith, c.if-channel-len.true, c.len.ensures))
    (subst (λ p. Collects c.args.now c.collect.result p c.collect.new.self) c.index_mut.ensures.value c.collect.ensures.collected)

pub returns-then-channel-len-clause-emptied : goal.returns-then-channel-len-clause-emptied
returns-then-channel-len-clause-emptied g c none =
    let ports = c.args.self.now.ports.items in
    let p = c.index_mut.result.now in
    let same = subst (λ b. Collects c.args.now b p c.collect.new.self) none c.collect.ensures.collected in (
      set_back ports c.args.channel p c.collect.new.self (same ∙ c.index_mut.ensures.value),
      some_there IsEmptied ports c.args.channel p (omega (arith, c.if-channel-len.true, c.len.ensures)) (subst IsEmptied c.index_mut.ensures.value (c.collect.ensures.emptied none)),
    )

pub returns-then-channel-len-clause-moments : goal.returns-then-channel-len-clause-moments
returns-then-channel-len-clause-moments g c =
    let ports = c.args.self.now.ports.items in
    let went = there_went (Collects c.args.now c.collect.result) ports c.args.channel c.index_mut.result.now c.collect.new.self (omega (arith, c.if-channel-len.true, c.len.ensures))
    (subst (λ p. Collects c.args.now c.collect.result p c.collect.new.self) c.index_mut.ensures.value c.collect.ensures.collected)
    in collect_moment c.args.now c.args.channel c.collect.result ports _ went

pub returns-else-channel-len-clause-collected : goal.returns-else-channel-len-clause-collected
returns-else-channel-len-clause-collected g c = none_went _ c.args.self.now.ports.items c.args.channel (omega (arith, c.if-channel-len.false, c.len.ensures))

pub returns-else-channel-len-clause-emptied : goal.returns-else-channel-len-clause-emptied
returns-else-channel-len-clause-emptied g c none =
    (refl, none_there IsEmptied c.args.self.now.ports.items c.args.channel (omega (arith, c.if-channel-len.false, c.len.ensures)))

pub returns-else-channel-len-clause-moments : goal.returns-else-channel-len-clause-moments
returns-else-channel-len-clause-moments g c = same_moment c.args.now c.args.self.now.ports.items c.args.self.now.ports.items refl
