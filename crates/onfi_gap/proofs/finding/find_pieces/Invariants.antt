use Rattle.std.proofs.Common.{◌+◌, ◌≤◌, length, drop}
use Rattle.onfi_gap.specs.Cuts.{cuts_from}
use Rattle.onfi_gap.specs.Pieces.{AreBefore}
use Rattle.onfi_gap.proofs.Pieces.{GoOn}
use Rattle.onfi_gap.proofs.finding.find_pieces.Given as goal

abbrev pub invariant-loop-at : goal.invariant-loop-at
invariant-loop-at l = record {
  within : l.found.from ≤ length l.notes;
  before : AreBefore (l.at + 1) l.found.pieces.items;
  goes : GoOn l.terms.timing l.terms.rules l.terms.limit (cuts_from l.notes l.fn.walk 8 1 l.lines) (cuts_from l.notes l.walk l.found.from (l.at + 1) (drop l.at l.lines)) l.found.pieces.items;
}
