use Rattle.std.proofs.Common.{◌≡◌}
use Rattle.onfi_gap.specs.Following.{all_fresh}
use Rattle.onfi_gap.proofs.notes.first_notes.Given as goal

abbrev pub invariant-loop-lun : goal.invariant-loop-lun
invariant-loop-lun l = l.notes.items ≡ all_fresh l._lun
