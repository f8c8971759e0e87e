use Rattle.std.proofs.Common.{◌∙◌, map, sym, subst}
use Rattle.std.specs.List.{AllByRecursion as Each}
use Rattle.std.proofs.lemmas.Bool.{or_parts}
use Rattle.onfi_run.specs.Resting.{Rests, ends_by}
use Rattle.onfi_run.proofs.Limits.{keys_queues, keys_within}
use Rattle.onfi_run.proofs.simulation.round.Goals as goal

pub returns-clause-rest : goal.returns-clause-rest
returns-clause-rest g c none =
    let both = or_parts c.act_all-acted.result c.turn_all-turned.result (sym c.either.ensures ∙ none) in
    let acted = c.act_all-acted.ensures.rest both.0 in
    let turned = c.turn_all-turned.ensures.wait both.1 in
    subst (λ ls. Each (Rests c.args.now c.args.course.now.rows.now (ends_by (map (λ l. l.pace) ls))) c.act_all-acted.new.stations) (sym turned.0) acted.1

pub returns-clause-wait : goal.returns-clause-wait
returns-clause-wait g c none =
    let both = or_parts c.act_all-acted.result c.turn_all-turned.result (sym c.either.ensures ∙ none) in
    (c.turn_all-turned.ensures.wait both.1).1

pub returns-clause-lanes : goal.returns-clause-lanes
returns-clause-lanes g c =
    c.turn_all-turned.ensures.same ∙ keys_queues g.C.Channel.queues c.act_all-acted.new.lanes.items c.args.lanes.now.items c.act_all-acted.ensures.lanes

pub returns-clause-over : goal.returns-clause-over
returns-clause-over g c all =
    c.turn_all-turned.ensures.over (keys_within g.C.Channel.queues c.act_all-acted.new.lanes.items c.args.lanes.now.items c.act_all-acted.ensures.lanes all)
