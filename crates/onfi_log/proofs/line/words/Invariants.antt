use Rattle.std.proofs.Common.{◌≡◌, ◌++◌, length, map}
use Rattle.onfi_log.specs.Parts.{parts}
use Rattle.onfi_log.proofs.line.words.Given as goal

abbrev pub invariant-loop-at : goal.invariant-loop-at
invariant-loop-at l = record {
  count : length l.words.items ≡ l._at;
  cut : parts 32 l.line ≡ map (λ w. w.now) l.words.items ++ parts 32 l.left;
}
