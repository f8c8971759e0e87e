use Rattle.onfi_problem.proofs.Limits.{bus_in_limits}
use Rattle.onfi_problem.proofs.problem.Problem.bus_free.Goals as goal

pub returns-clause-small : goal.returns-clause-small
returns-clause-small c = bus_in_limits _ c.self.invariant.0.limits
