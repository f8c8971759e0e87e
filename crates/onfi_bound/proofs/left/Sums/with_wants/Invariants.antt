use Rattle.std.proofs.Common.{◌≡◌, ◌+◌, ◌*◌, ◌^◌, ◌≤◌, take, if◌then◌else◌, true}
use Rattle.std.specs.List.{list_any}
use Rattle.onfi_timing.specs.Kinds.{operation_of}
use Rattle.onfi_timing.specs.declared.operation.Operation.{Operation}
use Rattle.onfi_group.specs.Words.{total}
use Rattle.onfi_problem.specs.Left.{want_command, want_post}
use Rattle.onfi_bound.specs.Bounds.{same_operation}
use Rattle.onfi_bound.specs.Parts.{has_operation}
use Rattle.onfi_bound.proofs.left.Sums.with_wants.Given as goal

abbrev pub invariant-loop-want : goal.invariant-loop-want
invariant-loop-want l = record {
  commands : l.sums.commands ≡ l.fn.self.commands + total (want_command l.timing) (take l.want-index l.wants);
  posts : l.sums.posts ≡ l.fn.self.posts + total (want_post l.timing) (take l.want-index l.wants);
  operations : (operation : Operation) → has_operation l.sums.operations operation ≡ (if has_operation l.fn.self.operations operation then true else list_any (λ w. same_operation operation (operation_of w.kind)) (take l.want-index l.wants));
  commands_short : l.sums.commands ≤ 2 ^ 55 + l.want-index * 2 ^ 50;
  posts_short : l.sums.posts ≤ 2 ^ 55 + l.want-index * 2 ^ 50;
}
