use Rattle.std.proofs.Common.{◌≡◌, ◌≤◌, drop, length}
use Rattle.onfi_gap.specs.Following.{all_fresh, notes_from}
use Rattle.onfi_gap.proofs.notes.note_groups.Given as goal

abbrev pub invariant-loop-line : goal.invariant-loop-line
invariant-loop-line l = record {
  notes : notes_from l.notes.items l.walk (drop l.line-index l.lines) ≡ notes_from (all_fresh 8) l.fn.walk l.lines;
  first : 8 ≤ length l.notes.items;
}
