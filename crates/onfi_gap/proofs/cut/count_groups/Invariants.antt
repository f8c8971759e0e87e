use Rattle.std.proofs.Common.{◌≡◌, ◌+◌, ◌≤◌, drop}
use Rattle.onfi_gap.specs.Cuts.{few_groups}
use Rattle.onfi_gap.proofs.cut.count_groups.Given as goal

abbrev pub invariant-loop-at : goal.invariant-loop-at
invariant-loop-at l = record {
  value : l.at + few_groups l.count (drop l.at l.groups) ≡ few_groups 0 l.groups;
  few : l.count ≤ 8;
}
