use Rattle.std.proofs.Common.{◌≡◌, ◌<◌, ◌++◌, ◌∙◌, ℕ, [], ◌∷◌, get_or, length, map, sym, subst, take, ap, arith}
use Rattle.std.proofs.lemmas.List.{length-map, take_all, take_more}
use Rattle.std.proofs.Math.ListN.{get_or-map}
use Rattle.onfi_run.specs.declared.lane.Lane.{Lane}
use Rattle.onfi_run.specs.Pace.{IsNext, due_of}
use Rattle.onfi_run.proofs.simulation.next_turn.Goals as goal

pub loop-lane-preserved : goal.loop-lane-preserved
loop-lane-preserved g c =
    let now = c.args.now in
    let lanes = c.args.lanes.now in
    let at = c.loop-lane.lane-index in
    let due : Lane g.row.C.Denot → ℕ = λ x. due_of x.pace (g.C.Channel.free x.channel) in
    let d = c.lane-item.result in
    let dues = map due lanes in
    let within : at < length dues = omega (arith, length-map lanes due, c.loop-lane-test.true) in
    let here : c.due.result ≡ get_or dues at (due d) = c.due.ensures ∙ ap due c.lane-item.is ∙ sym (get_or-map due lanes at d) in
    let more = subst (λ x. IsNext now (take at dues ++ x ∷ []) c.choose_sooner-next.result) here (c.choose_sooner-next.ensures (take at dues) c.loop-lane.invariant) in
    subst (λ l. IsNext now l c.choose_sooner-next.result) (sym (take_more dues at (due d) within)) more

pub returns : goal.returns
returns g c =
    let due : Lane g.row.C.Denot → ℕ = λ x. due_of x.pace (g.C.Channel.free x.channel) in
    let dues = map due c.args.lanes.now in
    subst (λ l. IsNext c.args.now l c.loop-lane.next) (take_all c.loop-lane.lane-index dues (omega (arith, length-map c.args.lanes.now due, c.loop-lane-test.false))) c.loop-lane.invariant
