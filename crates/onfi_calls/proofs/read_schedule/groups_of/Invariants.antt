use Rattle.std.proofs.Common.{◌≡◌, ◌≤◌, length, map, take}
use Rattle.onfi_calls.specs.ReadSchedule.{group_of}
use Rattle.onfi_calls.proofs.read_schedule.groups_of.Given as goal

abbrev pub invariant-loop-group : goal.invariant-loop-group
invariant-loop-group l = record {
  made : l.groups.items ≡ map (group_of l.wants) (take l.group-index l.said);
  few : length l.groups.items ≤ l.group-index;
}
