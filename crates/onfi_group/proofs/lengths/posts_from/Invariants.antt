use Rattle.std.proofs.Common.{◌≡◌, ◌*◌, ◌^◌, ◌≤◌, length, drop, ◌+◌}
use Rattle.std.specs.List.{sum}
use Rattle.onfi_timing.specs.Phases.{posts_from}
use Rattle.onfi_group.specs.Group.{group_spans}
use Rattle.onfi_group.proofs.lengths.posts_from.Given as goal

abbrev pub invariant-loop-at : goal.invariant-loop-at
invariant-loop-at l = record {
  value : l.posts + sum (drop l.at (group_spans l.timing l.members).posts) ≡ posts_from (group_spans l.timing l.members) (length l.members) l.phase;
  small : l.posts ≤ l.at * 2 ^ 50;
}
