use Rattle.std.proofs.Common.{◌≡◌, ◌≤◌, length, take}
use Rattle.std.specs.List.{list_any}
use Rattle.onfi_timing.specs.declared.kind.Kind.TheVariants.{Read}
use Rattle.onfi_steady.specs.Offer.{firsts, is_kind}
use Rattle.onfi_steady.specs.Slots.{waiters_in}
use Rattle.onfi_steady.proofs.ready.list_slots.Given as goal

abbrev pub invariant-loop-slot : goal.invariant-loop-slot
invariant-loop-slot o l = record {
  is : l.ready.items ≡ firsts (waiters_in (take l.slot-index l.waiting));
  few : length l.ready.items ≤ l.slot-index;
  reads : l.reads ≡ list_any (is_kind Read) (waiters_in (take l.slot-index l.waiting));
}
