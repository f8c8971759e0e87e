use Rattle.std.proofs.Common.{◌≡◌, ◌≤◌, length, map, take}
use Rattle.onfi_calls.specs.ReadSchedule.{rest_of}
use Rattle.onfi_calls.proofs.read_schedule.rests_of.Given as goal

abbrev pub invariant-loop-rest : goal.invariant-loop-rest
invariant-loop-rest l = record {
  made : l.rests.items ≡ map rest_of (take l.rest-index l.said);
  few : length l.rests.items ≤ l.rest-index;
}
