use Rattle.std.proofs.Common.{◌≡◌, ◌≤◌, length, take}
use Rattle.onfi_steady.specs.Slots.{others_of}
use Rattle.onfi_steady.proofs.line_left.list_others.Given as goal

abbrev pub invariant-loop-slot : goal.invariant-loop-slot
invariant-loop-slot l = record {
  is : l.others.items ≡ others_of l.id (take l.slot-index l.slots);
  few : length l.others.items ≤ l.slot-index;
}
