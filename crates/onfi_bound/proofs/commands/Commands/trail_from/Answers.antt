use Rattle.onfi_bound.proofs.Counting.{counts_long, operations_some}
use Rattle.onfi_bound.proofs.commands.Commands.trail_from.Goals as goal

pub returns : goal.returns
returns c = λ p timing bus counts. c.trail_by.ensures p timing bus (counts_long p c.args.timing.now c.args.self timing counts) (operations_some p c.args.self counts)
