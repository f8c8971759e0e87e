use Rattle.onfi_known_plan.proofs.Closed.{closed_again}
use Rattle.onfi_known_plan.proofs.closing.close_by_known.Goals as goal

pub returns : goal.returns
returns c = λ e. closed_again e c.args.problem.now c.args.records.now.nodes.items c.in_ok-hit.hit.number c.in_ok-hit.hit.demand c.in_limits.ensures.limits c.requires.few c.in_ok-hit.ensures
