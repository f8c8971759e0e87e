use Rattle.std.proofs.Common.{◌≡◌, ◌≤◌, take}
use Rattle.onfi_timing.specs.declared.operation.Operation.{Operation}
use Rattle.onfi_group.specs.Words.{total}
use Rattle.onfi_problem.specs.Position.{waiting_of}
use Rattle.onfi_bound.specs.Commands.{count_of, one_of}
use Rattle.onfi_bound.proofs.commands.Commands.of_wants.Given as goal

abbrev pub invariant-loop-i : goal.invariant-loop-i
invariant-loop-i l = record {
  same : (operation : Operation) → count_of l.counts operation ≡ total (one_of operation) (waiting_of l.marks (take l.i l.wants));
  few : (operation : Operation) → count_of l.counts operation ≤ l.i;
}
