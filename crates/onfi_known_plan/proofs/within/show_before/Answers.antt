use Rattle.std.proofs.Common.{refl}
use Rattle.onfi_known_plan.proofs.Tree.{finish_shown}
use Rattle.onfi_known_plan.proofs.within.show_before.Goals as goal

pub returns-clause-shown : goal.returns-clause-shown
returns-clause-shown c = finish_shown c.args.problem.now c.args.finish _ (c.requires.proved c.if-cut.false) refl
