use Rattle.std.proofs.Common.{◌≡◌, ◌∙◌, sym, subst}
use Rattle.onfi_problem.specs.Position.{Position}
use Rattle.onfi_bound.specs.Bounds.{bus}
use Rattle.onfi_check.specs.Nodes.{OpensNodes}
use Rattle.onfi_planner.proofs.Whole.{root_found, nodes_opened, some_opened, more_nodes}
use Rattle.onfi_planner.proofs.planning.plan_counted.Goals as goal

pub write-requires-clause-bus : goal.write-requires-clause-bus
write-requires-clause-bus c = subst (λ (z : Position). c.bus-bus_bound.result ≡ bus z.problem) (sym c.in-Ok.ensures.problem) c.bus-bus_bound.ensures.value

pub found_plan-planned-requires-clause-found : goal.found_plan-planned-requires-clause-found
found_plan-planned-requires-clause-found c = root_found c.args.problem.now c.in_ok-root.root c.search.new.best c.in-Ok.field-0 c.in_ok-root.ensures c.in-Ok.ensures.found

pub returns-clause-opened : goal.returns-clause-opened
returns-clause-opened c =
    let n = nodes_opened c.args.problem.now c.in_ok-root.root c.search.new.best.finish c.search.new.count.opened c.in_ok-root.ensures c.in-Ok.ensures.opened in
    subst (λ e. OpensNodes c.args.problem.now.problem e c.search.new.count.opened) (sym c.found_plan-planned.ensures.ends) n

pub returns-clause-some_opened : goal.returns-clause-some_opened
returns-clause-some_opened c = some_opened c.in_ok-root.root.problem.problem _ _ c.search.new.count.opened c.in-Ok.ensures.opened

pub returns-in-Err-Over-clause-over : goal.returns-in-Err-Over-clause-over
returns-in-Err-Over-clause-over c = λ opened e.
    let over = c.in-Err-Over.ensures.over c.in-Err-Over.field-0-is in
    let more = more_nodes c.args.problem.now c.in_ok-root.root c.search.new.count.opened c.args.limit c.in_ok-root.ensures over in
    let same : c.search.new.count.opened ≡ opened = cc in
    (sym same ∙ more.0, more.1)
