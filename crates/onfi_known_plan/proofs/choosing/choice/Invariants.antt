use Rattle.onfi_known_plan.specs.Steps.{IsStep}
use Rattle.onfi_known_plan.proofs.choosing.choice.Given as goal

abbrev pub invariant-loop-m : goal.invariant-loop-m
invariant-loop-m l = IsStep l.problem l.choice.step
