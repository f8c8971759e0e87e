use Rattle.std.proofs.Common.{arith}
use Rattle.onfi_bound.proofs.Ends.{bus_small, trail_all_small}
use Rattle.onfi_bound.proofs.bounds.trail_of.Goals as goal

pub trail_by-requires-clause-commands : goal.trail_by-requires-clause-commands
trail_by-requires-clause-commands c = let h = bus_small c.args.problem.now.problem c.bus_free-bus_free.ensures.limits in let q = c.requires.commands in omega arith

pub returns-clause-value : goal.returns-clause-value
returns-clause-value c = c.trail_by.ensures c.args.problem.now.problem c.timing-timing.ensures c.bus_free-bus_free.ensures.value c.requires.commands c.requires.operations

pub returns-clause-small : goal.returns-clause-small
returns-clause-small c = trail_all_small c.args.problem.now.problem c.trail_by.result c.bus_free-bus_free.ensures.limits (returns-clause-value c)
