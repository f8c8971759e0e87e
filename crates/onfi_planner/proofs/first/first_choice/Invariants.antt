use Rattle.onfi_planner.proofs.Choosing.{Chosen}
use Rattle.onfi_planner.proofs.first.first_choice.Given as goal

abbrev pub invariant-loop-m : goal.invariant-loop-m
invariant-loop-m l = Chosen l.problem.problem l.problem.groups l.moves l.m-index l.choice
