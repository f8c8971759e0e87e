use Rattle.std.proofs.Common.{◌≡◌, ◌++◌, take}
use Rattle.std.specs.List.{flat_map}
use Rattle.onfi_gap.specs.Text.{row_text}
use Rattle.onfi_gap.proofs.writing.put_rows.Given as goal

abbrev pub invariant-loop-piece : goal.invariant-loop-piece
invariant-loop-piece l = l.text.items ≡ l.fn.text.items ++ flat_map row_text (take l.piece-index l.pieces)
