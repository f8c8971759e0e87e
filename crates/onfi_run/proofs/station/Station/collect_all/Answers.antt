use Rattle.std.proofs.Common.{◌<◌, ◌∙◌, length, refl, sym, subst, arith}
use Rattle.std.specs.Prelude.{IfSome, slice_get}
use Rattle.std.specs.List.{AllByRecursion as Each}
use Rattle.std.proofs.lemmas.Bool.{or_parts}
use Rattle.std.proofs.lemmas.List.{take_all}
use Rattle.onfi_run.specs.Resting.{IsEmptied}
use Rattle.onfi_run.proofs.Moments.{moment_then, same_moment}
use Rattle.onfi_run.proofs.Resting.{each_more}
use Rattle.onfi_run.proofs.station.Station.collect_all.Goals as goal

pub loop-channel-init : goal.loop-channel-init
loop-channel-init g c = (refl, refl, refl, refl, same_moment c.args.now c.args.self.now.ports.items c.args.self.now.ports.items refl, λ none. (refl, tt))

pub loop-channel-preserved : goal.loop-channel-preserved
loop-channel-preserved g c =
    let ports = c.args.self.now.ports.items in
    let was = c.loop-channel.self.ports.items in
    let more = c.collect-collected.ensures in (
      more.number ∙ c.loop-channel.invariant.0,
      more.passed ∙ c.loop-channel.invariant.1,
      more.same ∙ c.loop-channel.invariant.2,
      more.short ∙ c.loop-channel.invariant.3,
      moment_then c.args.now ports was c.collect-collected.new.self.ports.items c.loop-channel.invariant.4 more.moments,
      λ none.
          let both = or_parts c.loop-channel.any c.collect-collected.result (sym c.either-any.ensures ∙ none) in
          let had = c.loop-channel.invariant.5 both.0 in
          let now = more.emptied both.1 in
          let within : c.loop-channel.channel < length ports = omega (arith, c.loop-channel-test.true, c.len-channel-end.ensures) in
          let one = subst (λ l. IfSome (slice_get l c.loop-channel.channel) IsEmptied) had.0 now.1 in
          (now.0 ∙ had.0, each_more IsEmptied ports c.loop-channel.channel within one had.1),
    )

pub returns-clause-emptied : goal.returns-clause-emptied
returns-clause-emptied g c none =
    let ports = c.args.self.now.ports.items in
    let had = c.loop-channel.invariant.5 none in
    let all = subst (Each IsEmptied) (take_all c.loop-channel.channel ports (omega (arith, c.loop-channel-test.false, c.len-channel-end.ensures))) had.1 in
    (had.0, subst (Each IsEmptied) (sym had.0) all)
