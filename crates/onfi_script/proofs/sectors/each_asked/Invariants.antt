use Rattle.std.proofs.Common.{◌≡◌, ◌≤◌, ◌++◌, length, drop}
use Rattle.onfi_script.specs.Setup.{each_asked}
use Rattle.onfi_script.proofs.sectors.each_asked.Given as goal

-- the members so far and those that are left are all
abbrev pub invariant-loop-at : goal.invariant-loop-at
invariant-loop-at l = record {
  made : each_asked 0 l.counts l.all ≡ l.members.items ++ each_asked l.at l.counts (drop l.at l.all);
  len : length l.members.items ≡ l.at;
  room : l.members.capacity ≡ 4;
  all : l.all ≡ l.group;
  some : 1 ≤ length l.all;
  few : length l.all ≤ 4;
}
