use Rattle.std.proofs.Common.{sym, ◌∙◌}
use Rattle.onfi_schedule.proofs.LegalIs.{shape_from, legal_to, waits_from, turns_from, block_order_from}
use Rattle.onfi_schedule.proofs.Found.{part_broken}
use Rattle.onfi_schedule.proofs.finding.find_breach.Goals as goal

pub returns-then-is_some-clause-legal : goal.returns-then-is_some-clause-legal
returns-then-is_some-clause-legal c =
    part_broken c.of_shape-breach.result _ _ (sym c.is_some.ensures ∙ c.if-is_some.true) c.of_shape-breach.ensures.none (λ lg. shape_from _ _ c.bus_free-bus_free.ensures.limits.problem lg.shape)

pub returns-then-is_some-2-clause-legal : goal.returns-then-is_some-2-clause-legal
returns-then-is_some-2-clause-legal c =
    part_broken c.of_groups-breach.result _ _ (sym c.is_some-2.ensures ∙ c.if-is_some-2.true) c.of_groups-breach.ensures.none (λ lg. lg.group)

pub returns-then-is_some-3-clause-legal : goal.returns-then-is_some-3-clause-legal
returns-then-is_some-3-clause-legal c =
    part_broken c.of_bus-breach.result _ _ (sym c.is_some-3.ensures ∙ c.if-is_some-3.true) c.of_bus-breach.ensures.none (λ lg. record { from_bus_free = lg.from_bus_free; no_overlap = lg.no_overlap })

pub returns-then-is_some-4-clause-legal : goal.returns-then-is_some-4-clause-legal
returns-then-is_some-4-clause-legal c =
    part_broken c.of_waits-breach.result _ _ (sym c.is_some-4.ensures ∙ c.if-is_some-4.true) c.of_waits-breach.ensures.none (waits_from _ _ c.bus_free-bus_free.ensures.limits.problem)

pub returns-then-is_some-5-clause-legal : goal.returns-then-is_some-5-clause-legal
returns-then-is_some-5-clause-legal c =
    part_broken c.of_turns-breach.result _ _ (sym c.is_some-5.ensures ∙ c.if-is_some-5.true) c.of_turns-breach.ensures.none (turns_from _ _ c.bus_free-bus_free.ensures.limits.problem)

pub returns-clause-legal : goal.returns-clause-legal
returns-clause-legal c =
    let ip = c.bus_free-bus_free.ensures.limits.problem in
    let shape = c.of_shape-breach.ensures.none.0 (sym c.is_some.ensures ∙ c.if-is_some.false) in
    let groups = c.of_groups-breach.ensures.none.0 (sym c.is_some-2.ensures ∙ c.if-is_some-2.false) in
    let bus = c.of_bus-breach.ensures.none.0 (sym c.is_some-3.ensures ∙ c.if-is_some-3.false) in
    let waits = c.of_waits-breach.ensures.none.0 (sym c.is_some-4.ensures ∙ c.if-is_some-4.false) in
    let turns = c.of_turns-breach.ensures.none.0 (sym c.is_some-5.ensures ∙ c.if-is_some-5.false) in
    let order = c.of_block_order.ensures.none in
    ((λ z. legal_to _ _ ip shape groups bus waits turns (order.0 z)), (λ lg. order.1 (block_order_from _ _ ip lg)))
