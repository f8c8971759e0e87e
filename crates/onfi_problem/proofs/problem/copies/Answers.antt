use Rattle.std.proofs.Common.{◌∙◌}
use Rattle.std.proofs.lemmas.List.{take_all}
use Rattle.onfi_problem.proofs.problem.copies.Goals as goal

pub returns : goal.returns
returns c = c.loop-group.invariant ∙ take_all c.loop-group.group-index c.args.groups.now c.loop-group-test.false
