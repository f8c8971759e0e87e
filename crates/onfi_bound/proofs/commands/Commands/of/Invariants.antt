use Rattle.std.proofs.Common.{◌≡◌, ◌+◌, ◌*◌, ◌≤◌, take}
use Rattle.onfi_timing.specs.declared.operation.Operation.{Operation}
use Rattle.onfi_group.specs.Words.{total}
use Rattle.onfi_problem.specs.Position.{state_of}
use Rattle.onfi_bound.specs.Commands.{count_of, commands_on}
use Rattle.onfi_bound.proofs.commands.Commands.of.Given as goal

abbrev pub invariant-loop-lun : goal.invariant-loop-lun
invariant-loop-lun l = record {
  same : (operation : Operation) → count_of l.counts operation ≡ count_of l.initial.counts operation + total (λ x. commands_on operation (state_of l.problem.groups x)) (take l.lun-index l.lun-items);
  few : (operation : Operation) → count_of l.counts operation ≤ 8 + 4 * l.lun-index;
}
