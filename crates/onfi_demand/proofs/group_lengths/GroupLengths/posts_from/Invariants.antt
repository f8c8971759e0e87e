use Rattle.std.proofs.Common.{◌≡◌, ◌+◌, ◌-◌, ◌*◌, ◌^◌, ◌≤◌, drop}
use Rattle.std.specs.List.{sum}
use Rattle.onfi_timing.specs.Phases.{posts_from}
use Rattle.onfi_demand.specs.Remaining.{lengths_of}
use Rattle.onfi_demand.proofs.group_lengths.GroupLengths.posts_from.Given as goal

abbrev pub invariant-loop-at : goal.invariant-loop-at
invariant-loop-at l = record {
  value : l.posts + sum (drop l.at (lengths_of l.self).posts) ≡ posts_from (lengths_of l.self) l.self.members l.next;
  small : l.posts ≤ (l.at - (l.next - l.self.members)) * 2 ^ 50;
}
