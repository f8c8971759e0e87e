use Rattle.std.proofs.Common.{ap, ◌∙◌, ◌<◌, length, length-set, sym, subst, arith}
use Rattle.std.specs.Prelude.{IfSome, slice_get}
use Rattle.std.specs.List.{AllByRecursion as Each}
use Rattle.std.proofs.Math.Seq.{map-set_same}
use Rattle.std.proofs.lemmas.Bool.{or_parts}
use Rattle.std.proofs.lemmas.List.{take_all}
use Rattle.onfi_run.specs.declared.lane.Lane.{Lane}
use Rattle.onfi_run.specs.Pace.{EndsWithin, Waits}
use Rattle.onfi_run.proofs.Limits.{set_within}
use Rattle.onfi_run.proofs.Resting.{each_more, set_back, some_there}
use Rattle.onfi_run.proofs.simulation.turn_all.Goals as goal

pub loop-channel-preserved : goal.loop-channel-preserved
loop-channel-preserved g c =
    let all = c.args.lanes.now.items in
    let lanes = c.loop-channel.lanes.items in
    let at = c.loop-channel.channel in
    let new = c.turn_at-turned.new.self in
    let old = c.index_mut.result.now in
    let value = c.index_mut.ensures.value in (
      map-set_same (λ x. g.C.Channel.queues x.channel) lanes at new old (c.turn_at-turned.ensures.same ∙ ap (λ x. g.C.Channel.queues x.channel) value) ∙ c.loop-channel.invariant.0,
      length-set lanes at new ∙ c.loop-channel.invariant.1,
      λ all. set_within g.C.Channel.queues lanes at _ new (λ was. c.turn_at-turned.ensures.over (subst (EndsWithin g.C.Channel.queues) (sym value) was)) (c.loop-channel.invariant.2 all),
      λ none.
          let both = or_parts c.loop-channel.any c.turn_at-turned.result (sym c.either-any.ensures ∙ none) in
          let had = c.loop-channel.invariant.3 both.0 in
          let same = set_back lanes at old new (c.turn_at-turned.ensures.none both.1 ∙ value) in
          let within : at < length lanes = omega (arith, c.loop-channel-test.true, c.len-channel-end.ensures, c.loop-channel.invariant.1) in
          let waits = λ (x : Lane g.row.C.Denot). Waits c.args.now x.pace (g.C.Channel.free x.channel) in
          let here = some_there waits lanes at old within (subst waits value (c.turn_at-turned.ensures.waits both.1)) in
          let one = subst (λ l. IfSome (slice_get l at) waits) had.0 here in
          let inside : at < length all = omega (arith, within, c.loop-channel.invariant.1) in
          (same ∙ had.0, each_more waits all at inside one had.1),
    )

pub returns-clause-wait : goal.returns-clause-wait
returns-clause-wait g c none =
    let all = c.args.lanes.now.items in
    let had = c.loop-channel.invariant.3 none in
    let waits = λ (x : Lane g.row.C.Denot). Waits c.args.now x.pace (g.C.Channel.free x.channel) in
    let each = subst (Each waits) (take_all c.loop-channel.channel all (omega (arith, c.loop-channel-test.false, c.len-channel-end.ensures))) had.1 in
    (had.0, subst (Each waits) (sym had.0) each)
