use Rattle.std.proofs.Common.{◌≡◌, ◌≤◌, ◌*◌, ◌^◌, take}
use Rattle.onfi_group.specs.Words.{total}
use Rattle.onfi_problem.specs.Left.{chain_time}
use Rattle.onfi_problem.proofs.horizon.chains_time.Given as goal

abbrev pub invariant-loop-state : goal.invariant-loop-state
invariant-loop-state l = record {
  value : l.total ≡ total (chain_time l.timing) (take l.state-index l.luns);
  small : l.total ≤ l.state-index * (12 * 2 ^ 50);
}
