use Rattle.onfi_reply.proofs.Steps.{opens_as}
use Rattle.onfi_reply.proofs.rule.pick.Goals as goal

pub another-requires-clause-rule : goal.another-requires-clause-rule
another-requires-clause-rule g c = opens_as _ _ _ _ c.requires.unopened c.requires.picked
