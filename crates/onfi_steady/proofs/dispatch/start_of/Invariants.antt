use Rattle.std.proofs.Common.{◌≢◌, take}
use Rattle.std.specs.List.{AllByRecursion as All}
use Rattle.onfi_problem.specs.Moves.{Start}
use Rattle.onfi_problem.specs.Position.{move_of}
use Rattle.onfi_steady.proofs.dispatch.start_of.Given as goal

abbrev pub invariant-loop-m : goal.invariant-loop-m
invariant-loop-m l = All (λ m. move_of l.problem.groups m ≢ Start l.members) (take l.m-index l.m-items)
