use Rattle.std.proofs.Common.{◌+◌, ◌≤◌}
use Rattle.std.specs.VecDeque.{deque_len, deque_capacity}
use Rattle.onfi_chip.proofs.GroupRun.{HasRun}
use Rattle.onfi_chip.proofs.launching.run_all.Given as goal

abbrev pub invariant-loop-member : goal.invariant-loop-member
invariant-loop-member l = record {
  run : HasRun l.initial.store l.store l.initial.members.items l.members.items l.initial.posts.items l.posts.items;
  room : deque_len l.posts + deque_len l.members ≤ deque_capacity l.posts;
}

abbrev pub decreases-loop-member : goal.decreases-loop-member
decreases-loop-member l = deque_len l.members
