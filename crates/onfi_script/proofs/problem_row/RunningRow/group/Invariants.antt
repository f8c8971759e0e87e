use Rattle.std.proofs.Common.{◌≡◌, ◌≤◌, map, take, length}
use Rattle.onfi_script.specs.Setup.{member}
use Rattle.onfi_script.proofs.problem_row.RunningRow.group.Given as goal

abbrev pub invariant-loop-block : goal.invariant-loop-block
invariant-loop-block l = record {
  made : l.members.items ≡ map (member l.plane_bits l.self) (take l.block-index l.block-items);
  len : length l.members.items ≡ l.block-index;
  room : l.members.capacity ≡ 4;
  all : l.block-items ≡ l.self.blocks;
  some : 1 ≤ length l.block-items;
  few : length l.block-items ≤ 4;
}
