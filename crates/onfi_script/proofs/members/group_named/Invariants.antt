use Rattle.std.proofs.Common.{◌≡◌, map, take, length}
use Rattle.onfi_script.specs.PlanLine.{want_named}
use Rattle.onfi_script.proofs.members.group_named.Given as goal

abbrev pub invariant-loop-id : goal.invariant-loop-id
invariant-loop-id l = record {
  made : l.members.items ≡ map (want_named l.wants) (take l.id-index l.ids);
  len : length l.members.items ≡ l.id-index;
  room : l.members.capacity ≡ 4;
}
