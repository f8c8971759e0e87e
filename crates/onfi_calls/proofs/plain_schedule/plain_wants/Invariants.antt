use Rattle.std.proofs.Common.{◌≡◌, ◌≤◌, length, map, take}
use Rattle.onfi_calls.specs.PlainSchedule.{written_want}
use Rattle.onfi_calls.proofs.plain_schedule.plain_wants.Given as goal

abbrev pub invariant-loop-want : goal.invariant-loop-want
invariant-loop-want l = record {
  made : l.all.items ≡ map written_want (take l.want-index l.wants);
  few : length l.all.items ≤ l.want-index;
}
