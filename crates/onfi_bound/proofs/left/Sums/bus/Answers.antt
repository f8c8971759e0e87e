use Rattle.std.proofs.Common.{arith}
use Rattle.onfi_bound.proofs.Ends.{bus_small}
use Rattle.onfi_bound.proofs.left.Sums.bus.Goals as goal

pub overflow_add-result : goal.overflow_add-result
overflow_add-result c = let h = bus_small c.args.problem.now.problem c.bus_free.ensures.limits in omega arith

pub overflow_add-result-2 : goal.overflow_add-result-2
overflow_add-result-2 c = let h = bus_small c.args.problem.now.problem c.bus_free.ensures.limits in omega arith

pub returns-clause-small : goal.returns-clause-small
returns-clause-small c = let h = bus_small c.args.problem.now.problem c.bus_free.ensures.limits in omega arith
