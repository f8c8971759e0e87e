use Rattle.std.proofs.Common.{◌≡◌, ◌++◌, length}
use Rattle.onfi_log.specs.Laws.{phases_of}
use Rattle.onfi_log.specs.Parts.{parts}
use Rattle.onfi_gap.proofs.finding.lines_of.Given as goal

abbrev pub invariant-loop-text : goal.invariant-loop-text
invariant-loop-text l = l.lines.items ++ phases_of (parts 10 l.left) ≡ phases_of (parts 10 l.text)

abbrev pub decreases-loop-text : goal.decreases-loop-text
decreases-loop-text l = length l.left
