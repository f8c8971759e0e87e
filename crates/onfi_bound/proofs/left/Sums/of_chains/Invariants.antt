use Rattle.std.proofs.Common.{◌≡◌, ◌*◌, ◌^◌, ◌≤◌, take}
use Rattle.std.specs.List.{list_any}
use Rattle.onfi_timing.specs.declared.operation.Operation.{Operation}
use Rattle.onfi_group.specs.Words.{total}
use Rattle.onfi_bound.specs.Parts.{has_operation, is_operation}
use Rattle.onfi_bound.proofs.left.Sums.of_chains.Given as goal

abbrev pub invariant-loop-chain : goal.invariant-loop-chain
invariant-loop-chain l = record {
  commands : l.sums.commands ≡ total (λ c. c.commands) (take l.chain-index l.chains);
  posts : l.sums.posts ≡ total (λ c. c.posts) (take l.chain-index l.chains);
  operations : (operation : Operation) → has_operation l.sums.operations operation ≡ list_any (λ c. is_operation operation c.command) (take l.chain-index l.chains);
  commands_short : l.sums.commands ≤ l.chain-index * 2 ^ 52;
  posts_short : l.sums.posts ≤ l.chain-index * 2 ^ 52;
}
