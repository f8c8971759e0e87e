use Rattle.std.proofs.Common.{◌≡◌, ◌≢◌, ℕ, ◌<◌, Some}
use Rattle.slab.specs.Slab.{get}
use Rattle.onfi_core.specs.declared.slot.Slot.{Slot}
use Rattle.onfi_core.proofs.finding.find.Given as goal

abbrev pub invariant-loop-key : goal.invariant-loop-key
invariant-loop-key l = (k : ℕ) (slot : Slot) → k < l.key → get l.slots k ≡ Some slot → slot.place ≢ l.place
