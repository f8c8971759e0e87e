use Rattle.onfi_script.proofs.Plans.{as_found, better_plans}
use Rattle.onfi_script.proofs.planning.improve_plan.Goals as goal

pub returns-then-options : goal.returns-then-options
returns-then-options c =
    let e = c.make_better.ensures in
    better_plans c.args.options c.args.weights.now c.args.problem.now c.args.plan c.make_better.result c.if-options.true c.requires e.legal e.finish (e.rising c.requires.rising) e.made

pub returns : goal.returns
returns c = as_found c.args.options c.args.weights.now c.args.problem.now c.args.plan c.if-options.false c.requires
