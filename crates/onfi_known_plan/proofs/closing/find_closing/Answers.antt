use Rattle.onfi_known_plan.proofs.Closed.{closed_by, open_still, windows_close}
use Rattle.onfi_known_plan.proofs.closing.find_closing.Goals as goal

pub returns-in-Some-clause-closing : goal.returns-in-Some-clause-closing
returns-in-Some-clause-closing c = closed_by c.args.e c.args.problem.now c.args.records.now.nodes.items c.in-Some.closing c.in_limits.ensures.limits c.in-Some.ensures.closing

pub returns-clause-closing : goal.returns-clause-closing
returns-clause-closing c = windows_close c.args.e c.args.problem.now c.args.records.now.nodes.items c.by_window.result c.in_limits.ensures.limits c.by_window.ensures

pub returns-clause-open : goal.returns-clause-open
returns-clause-open c = open_still _ c.by_window.result c.in_default.ensures.open
