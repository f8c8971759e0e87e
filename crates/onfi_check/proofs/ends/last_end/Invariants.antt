use Rattle.std.proofs.Common.{take}
use Rattle.onfi_problem.specs.Position.{moves_of}
use Rattle.onfi_check.specs.Ends.{IsLastEnd}
use Rattle.onfi_check.proofs.ends.last_end.Given as goal

abbrev pub invariant-loop-m : goal.invariant-loop-m
invariant-loop-m l = record { last : IsLastEnd l.problem.problem (moves_of l.problem.groups (take l.m-index l.moves)) l.lun l.last }
