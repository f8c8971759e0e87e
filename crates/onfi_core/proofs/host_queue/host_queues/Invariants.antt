use Rattle.std.proofs.Common.{◌≡◌, length}
use Rattle.std.specs.List.{AllByRecursion as Each}
use Rattle.onfi_core.specs.Queues.{IsEmptyQueue}
use Rattle.onfi_core.proofs.host_queue.host_queues.Given as goal

abbrev pub invariant-loop-host : goal.invariant-loop-host
invariant-loop-host l = record {
  count : length l.hosts.items ≡ l._host;
  empty : Each (IsEmptyQueue l.room) l.hosts.items;
}
