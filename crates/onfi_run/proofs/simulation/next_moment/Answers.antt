use Rattle.std.proofs.Common.{◌≡◌, ◌<◌, ◌++◌, ◌∙◌, ℕ, ◌+◌, [], ◌∷◌, append-nil, append_assoc, get_or, length, map, sym, subst, take, ap, arith}
use Rattle.std.proofs.lemmas.List.{length-map, take_all, take_more}
use Rattle.std.proofs.Math.ListN.{get_or-map}
use Rattle.onfi_run.specs.declared.lane.Lane.{Lane}
use Rattle.onfi_run.specs.declared.station.Station.{Station}
use Rattle.onfi_run.specs.Arriving.{comes_at}
use Rattle.onfi_run.specs.Pace.{IsNext, due_of}
use Rattle.onfi_run.proofs.simulation.next_moment.Goals as goal

pub loop-station-init : goal.loop-station-init
loop-station-init g c =
    let due : Lane g.row.C.Denot → ℕ = λ x. due_of x.pace (g.C.Channel.free x.channel) in
    subst (λ l. IsNext c.args.now l c.next_turn-next.result) (sym (append-nil (map due c.args.lanes.now))) c.next_turn-next.ensures

pub loop-station-preserved : goal.loop-station-preserved
loop-station-preserved g c =
    let now = c.args.now in
    let rows = c.args.rows.now in
    let stations = c.args.stations.now in
    let at = c.loop-station.station-index in
    let due : Lane g.row.C.Denot → ℕ = λ x. due_of x.pace (g.C.Channel.free x.channel) in
    let comes : Station → ℕ = λ s. comes_at rows s.passed in
    let d = c.station-item.result in
    let dues = map due c.args.lanes.now in
    let all = map comes stations in
    let within : at < length all = omega (arith, length-map stations comes, c.loop-station-test.true) in
    let here : c.comes_at.result ≡ get_or all at (comes d) = c.comes_at.ensures ∙ ap comes c.station-item.is ∙ sym (get_or-map comes stations at d) in
    let more = subst (λ x. IsNext now ((dues ++ take at all) ++ x ∷ []) c.choose_sooner-next.result) here (c.choose_sooner-next.ensures (dues ++ take at all) c.loop-station.invariant) in
    let whole : (dues ++ take at all) ++ get_or all at (comes d) ∷ [] ≡ dues ++ take (at + 1) all =
    append_assoc dues (take at all) (get_or all at (comes d) ∷ []) ∙ ap (λ l. dues ++ l) (sym (take_more all at (comes d) within)) in
    subst (λ l. IsNext now l c.choose_sooner-next.result) whole more

pub returns : goal.returns
returns g c =
    let due : Lane g.row.C.Denot → ℕ = λ x. due_of x.pace (g.C.Channel.free x.channel) in
    let comes : Station → ℕ = λ s. comes_at c.args.rows.now s.passed in
    let dues = map due c.args.lanes.now in
    let all = map comes c.args.stations.now in
    subst (λ l. IsNext c.args.now (dues ++ l) c.loop-station.next)
    (take_all c.loop-station.station-index all (omega (arith, length-map c.args.stations.now comes, c.loop-station-test.false))) c.loop-station.invariant
