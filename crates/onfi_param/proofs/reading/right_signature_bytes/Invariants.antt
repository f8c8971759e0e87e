use Rattle.std.proofs.Common.{◌≡◌, [], ◌∷◌, take}
use Rattle.std.specs.Prelude.{◌==◌, slice_index, count_by}
use Rattle.onfi_param.specs.Copies.{signature}
use Rattle.onfi_param.proofs.reading.right_signature_bytes.Given as goal

abbrev pub invariant-loop-at : goal.invariant-loop-at
invariant-loop-at l = l.right ≡ count_by (λ at. slice_index l.copy at == slice_index signature at) (take l.at (0 ∷ 1 ∷ 2 ∷ 3 ∷ []))
