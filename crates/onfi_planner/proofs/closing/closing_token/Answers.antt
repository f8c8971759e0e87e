use Rattle.onfi_planner.proofs.Reaching.{none_open, by_die}
use Rattle.onfi_planner.proofs.closing.closing_token.Goals as goal

pub returns-in-None : goal.returns-in-None
returns-in-None c = none_open c.args.problem.now.problem c.args.e c.in-None.ensures

pub returns-in-Die : goal.returns-in-Die
returns-in-Die c = by_die c.args.problem.now.problem c.args.e c.in-Die.lun c.of.result c.in-Some.first.bound c.in-Die.is c.of.ensures c.in-Some.ensures.is_first.reaches
