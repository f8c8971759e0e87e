use Rattle.std.proofs.Common.{◌≡◌, ◌+◌, ◌≤◌, length}
use Rattle.onfi_calls.specs.Words.{words_of}
use Rattle.onfi_calls.proofs.words.count_words.Given as goal

abbrev pub invariant-loop-rest : goal.invariant-loop-rest
invariant-loop-rest l = record {
  some : 1 ≤ l.count;
  few : l.count + length l.left ≤ length l.words + 1;
  all : l.count + length (words_of l.left) ≡ length (words_of l.words) + 1;
}

abbrev pub decreases-loop-rest : goal.decreases-loop-rest
decreases-loop-rest l = length l.left
