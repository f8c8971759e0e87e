use Rattle.std.proofs.Common.{◌≡◌, length}
use Rattle.onfi_calls.specs.Words.{tail, words_of}
use Rattle.onfi_calls.proofs.words.words_after.Given as goal

abbrev pub invariant-loop-word : goal.invariant-loop-word
invariant-loop-word l = tail l.name (words_of l.left) ≡ tail l.name (words_of l.words)

abbrev pub decreases-loop-word : goal.decreases-loop-word
decreases-loop-word l = length l.left
