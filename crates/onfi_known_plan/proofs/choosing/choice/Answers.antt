use Rattle.std.proofs.Common.{refl}
use Rattle.onfi_problem.specs.declared.moves.Move.TheVariants.{Next}
use Rattle.onfi_known_plan.proofs.Steps.{step_at}
use Rattle.onfi_known_plan.proofs.choosing.choice.Goals as goal

pub with_rank-choice-requires : goal.with_rank-choice-requires
with_rank-choice-requires c = step_at c.args.problem.now c.args.moves.now c.args.moves.now 0 (Next 0) refl c.requires.moves c.requires.named c.requires.some

pub first_of-choice-requires-clause-step : goal.first_of-choice-requires-clause-step
first_of-choice-requires-clause-step c = step_at c.args.problem.now c.args.moves.now c.args.moves.now c.loop-m.m-index (Next 0) refl c.requires.moves c.requires.named c.loop-m-test.true
