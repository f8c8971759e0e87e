use Rattle.std.proofs.Common.{◌↔◌, drop}
use Rattle.onfi_problem.specs.Checks.{AreLuns}
use Rattle.onfi_problem.proofs.checks.are_luns.Given as goal

abbrev pub invariant-loop-at : goal.invariant-loop-at
invariant-loop-at l = AreLuns l.rules l.at (drop l.at l.luns) ↔ AreLuns l.rules 0 l.luns
