use Rattle.onfi_check.proofs.ByDie.{by_die}
use Rattle.onfi_check.proofs.closes.closes.Goals as goal

pub returns-in-Die : goal.returns-in-Die
returns-in-Die c = by_die c.args.problem.now.problem c.args.e c.args.token.now c.in-Die.lun c.get.result _ c.in-Die.is c.get.ensures.value c.reaches-in-Die.ensures
