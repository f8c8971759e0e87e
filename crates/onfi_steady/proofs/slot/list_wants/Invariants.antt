use Rattle.std.proofs.Common.{◌≡◌, ◌≤◌, length, take}
use Rattle.onfi_steady.specs.Slots.{wants_in}
use Rattle.onfi_steady.proofs.slot.list_wants.Given as goal

abbrev pub invariant-loop-slot : goal.invariant-loop-slot
invariant-loop-slot l = record {
  is : l.wants.items ≡ wants_in (take l.slot-index l.slots);
  few : length l.wants.items ≤ l.slot-index;
}
