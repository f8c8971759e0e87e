use Rattle.std.proofs.Common.{◌≡◌, map, take}
use Rattle.onfi_gap.specs.Pieces.{gap_of}
use Rattle.onfi_gap.proofs.summary.gaps_of.Given as goal

abbrev pub invariant-loop-piece : goal.invariant-loop-piece
invariant-loop-piece l = l.gaps.items ≡ map gap_of (take l.piece-index l.pieces)
