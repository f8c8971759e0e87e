use Rattle.std.proofs.Common.{◌<◌, ◌∙◌, length, length-set, map, refl, set, sym, subst, take, arith}
use Rattle.std.specs.List.{AllByRecursion as Each}
use Rattle.std.proofs.lemmas.Bool.{or_parts}
use Rattle.std.proofs.lemmas.List.{take_all, take_more_set}
use Rattle.onfi_run.specs.Resting.{Rests, ends_by}
use Rattle.onfi_run.proofs.ByHost.{each_longer}
use Rattle.onfi_run.proofs.Moments.{all_moment_then, all_same_moment, one_moment, one_same}
use Rattle.onfi_run.proofs.simulation.act_all.Goals as goal

pub loop-host-init : goal.loop-host-init
loop-host-init g c = (refl, refl, all_same_moment c.args.now c.args.stations.now, omega arith, λ none. (refl, tt))

pub loop-host-preserved : goal.loop-host-preserved
loop-host-preserved g c =
    let now = c.args.now in
    let rows = c.args.course.now.rows.now in
    let xs = c.loop-host.stations in
    let at = c.loop-host.host in
    let old = c.index-stations-host.result in
    let new = c.act-acted.new.station in
    let acts = c.act-acted.ensures.acts in
    let within : at < length xs = omega (arith, c.loop-host-test.true) in (
      c.act-acted.ensures.queues ∙ c.loop-host.invariant.0,
      one_same xs at old new acts.same ∙ c.loop-host.invariant.1,
      all_moment_then now c.args.stations.now xs (set xs at new) c.loop-host.invariant.2 (one_moment now xs at old new within acts.moments),
      length-set xs at new ∙ c.loop-host.invariant.3,
      λ none.
          let both = or_parts c.loop-host.any c.act-acted.result (sym c.either-any.ensures ∙ none) in
          let had = c.loop-host.invariant.4 both.0 in
          let rests = c.act-acted.ensures.rests both.1 in
          let same = rests.0 ∙ had.0 in
          let resting = Rests now rows (ends_by (map (λ l. l.pace) c.args.lanes.now.items)) in
          let here = subst (λ ls. Rests now rows (ends_by (map (λ l. l.pace) ls.items)) new) same rests.1 in
          (same, subst (Each resting) (sym (take_more_set xs at new within)) (each_longer resting (take at xs) new had.1 here)),
    )

pub returns-clause-rest : goal.returns-clause-rest
returns-clause-rest g c none =
    let rows = c.args.course.now.rows.now in
    let xs = c.loop-host.stations in
    let had = c.loop-host.invariant.4 none in
    let all = subst (Each (Rests c.args.now rows (ends_by (map (λ l. l.pace) c.args.lanes.now.items)))) (take_all c.loop-host.host xs (omega (arith, c.loop-host-test.false, c.loop-host.invariant.3))) had.1 in
    (had.0, subst (λ ls. Each (Rests c.args.now rows (ends_by (map (λ l. l.pace) ls.items))) xs) (sym had.0) all)
