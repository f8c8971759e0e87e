use Rattle.onfi_core.proofs.Promised.{keeps_plainly}
use Rattle.onfi_core.proofs.half.Half.plan.Goals as goal

pub returns-clause-optimal : goal.returns-clause-optimal
returns-clause-optimal c = keeps_plainly c.args.self.now c.plan_by.new.self c.plan_by.result c.plan_by.ensures.planned c.plan_by.ensures.promised
