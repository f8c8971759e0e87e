use Rattle.std.proofs.Common.{◌<◌, ℕ}
use Rattle.std.specs.Prelude.{IfSome, slice_get}
use Rattle.onfi_steady.specs.Selecting.{IsBegunAt}
use Rattle.onfi_steady.proofs.dispatcher.begin_luns.Given as goal

abbrev pub invariant-loop-at : goal.invariant-loop-at
invariant-loop-at l = record { begun : (i : ℕ) → i < l.at → IfSome (slice_get l.books i) (IsBegunAt l.spans l.luns i) }
