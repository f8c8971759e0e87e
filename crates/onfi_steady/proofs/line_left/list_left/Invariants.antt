use Rattle.std.proofs.Common.{◌≡◌, ◌≤◌, length, take}
use Rattle.onfi_steady.specs.Slots.{left_of}
use Rattle.onfi_steady.proofs.line_left.list_left.Given as goal

abbrev pub invariant-loop-slot : goal.invariant-loop-slot
invariant-loop-slot l = record {
  is : l.left.items ≡ left_of l.lun l.begin (take l.slot-index l.slots);
  few : length l.left.items ≤ l.slot-index;
}
